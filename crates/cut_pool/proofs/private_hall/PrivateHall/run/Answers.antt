use Rattle.std.proofs.Common.{◌≡◌, ◌≤◌, ℕ, List, Option, Result, Some, length, subst, arith}
use Rattle.std.proofs.lemmas.Result.{on_ok_weaker, IfOk-weaker}
use Rattle.std.specs.Prelude.{Err, IfOk, OnOk}
use Rattle.cut_plan.specs.Values.{Values}
use Rattle.cut_plan.specs.Cells.{cells_of}
use Rattle.cut_ledger.specs.declared.slip.Slip.{Slip}
use Rattle.cut_ledger.specs.Table.{table_over}
use Rattle.cut_book.specs.Book.{BookValue}
use Rattle.cut_slots.specs.Report.{SlotEnd, calls_in_all}
use Rattle.cut_slots.specs.Start.{AreOpenedWith, StudyStart, start_of}
use Rattle.cut_hall.specs.Closing.{IsStudyEnd}
use Rattle.cut_pool.specs.inside.Emission.{EmitsStudy}
use Rattle.cut_pool.specs.inside.Faults.{closed_as}
use Rattle.cut_pool.specs.inside.Leaving.{LeavesBegun}
use Rattle.cut_pool.specs.declared.run_fault.RunFault.{RunFault}
use Rattle.cut_pool.specs.declared.run_fault.RunFault.TheVariants.{WorkMemory}
use Rattle.cut_pool.proofs.Conclusions.{ended, takes}
use Rattle.cut_pool.proofs.Leaving.{as_closed, broken_has, carried, end_as, left_begun, left_unrun}
use Rattle.cut_pool.proofs.private_hall.PrivateHall.run.Goals.{After-drop-opened-in-Ok-5}
use Rattle.cut_pool.proofs.private_hall.PrivateHall.run.Goals as goal

-- what is reported of the hall
abbrev report : (g : _) (c : After-drop-opened-in-Ok-5 g) → Result (List SlotEnd) RunFault
report g c = closed_as c.close.result.report

-- what holds of the report of the hall that was closed
reported : (g : _) (c : After-drop-opened-in-Ok-5 g) (P : List SlotEnd → Type 0) → IfOk c.close.result.report P
    → IfOk (report g c) P
reported g c P is = carried P c.close.result.report (report g c) (as_closed c.close.result.report) is

-- what the study of the hall left
end : (g : _) (c : After-drop-opened-in-Ok-5 g) → IsStudyEnd g.D.Disk.log (Some (start_of g.D.Disk.log c.args.begun.book))
    (report g c) c.close.result.is_broken c.close.result.journal
end g c =
    let left = end_as g.D.Disk.log c.in-Ok.study.hall.opening c.close.result.report (report g c) c.close.result.is_broken
    c.close.result.journal (as_closed c.close.result.report) c.close.ensures.ends in
    subst (λ (o : Option StudyStart). IsStudyEnd g.D.Disk.log o (report g c) c.close.result.is_broken
    c.close.result.journal) c.in-Ok.ensures.opening left

emits : (g : _) (c : After-drop-opened-in-Ok-5 g) → EmitsStudy (table_over c.args.begun.book.state.ledger.plan
    c.args.begun.book.state.ledger.base) c.stream-sent.result (g.W.Wire.log c.args.wire.now)
    (g.W.Wire.log c.stream-sent.new.wire)
emits g c =
    let v : Values = c.args.begun.book.state.ledger.plan in
    let base : List Slip = c.in-Ok.study.opened.base in
    let old = g.W.Wire.log c.args.wire.now in
    let new = g.W.Wire.log c.stream-sent.new.wire in
    subst (λ (b : List Slip). EmitsStudy (table_over v b) c.stream-sent.result old new) c.in-Ok.ensures.base
    (subst (λ (p : Values). EmitsStudy (table_over p base) c.stream-sent.result old new) c.in-Ok.ensures.plan
    c.stream-sent.ensures.emits)

-- each line is a call
calls : (g : _) (c : After-drop-opened-in-Ok-5 g) → OnOk c.stream-sent.result (IfOk (report g c)
    (λ (slots : List SlotEnd). length (cells_of c.args.begun.book.state.ledger.plan) ≤ calls_in_all slots))
calls g c =
    let made : ℕ = c.stream-sent.new.self.writer.made in
    subst (λ (p : Values). OnOk c.stream-sent.result
    (IfOk (report g c) (λ (slots : List SlotEnd). length (cells_of p) ≤ calls_in_all slots))) c.in-Ok.ensures.plan
    (on_ok_weaker c.stream-sent.result
    (λ few. IfOk-weaker (report g c) (λ (slots : List SlotEnd). made ≤ calls_in_all slots)
    (λ (slots : List SlotEnd). length (cells_of c.in-Ok.study.opened.plan) ≤ calls_in_all slots)
    (λ slots low. omega (arith, few, low))
    (reported g c (λ (slots : List SlotEnd). made ≤ calls_in_all slots) c.close.ensures.calls))
    c.stream-sent.ensures.made)

pub returns-in-Ok-clause-ended : goal.returns-in-Ok-clause-ended
returns-in-Ok-clause-ended g c =
    let opened = subst (λ (o : Option StudyStart). IfOk (report g c) (λ (slots : List SlotEnd). AreOpenedWith o slots))
    c.in-Ok.ensures.opening
    (reported g c (λ (slots : List SlotEnd). AreOpenedWith c.in-Ok.study.hall.opening slots) c.close.ensures.opened) in
    ended c.args.begun.book.state.ledger.plan c.args.begun.book.state.ledger.base
    c.args.begun.book.state.has_journal c.close.result.is_broken c.args.begun.book.size c.stream-sent.result
    (report g c) c.conclude_run.result.ended (g.W.Wire.log c.args.wire.now) (g.W.Wire.log c.stream-sent.new.wire)
    c.args.begun.good (emits g c)
    (reported g c (λ (slots : List SlotEnd). length slots ≡ 1) c.close.ensures.slots) opened (calls g c)
    (broken_has g.D.Disk.log c.args.begun.book c.stream-sent.result (report g c) c.close.result.is_broken
    c.close.result.journal (end g c)) c.conclude_run.ensures.concludes

pub returns-in-Ok-clause-takes : goal.returns-in-Ok-clause-takes
returns-in-Ok-clause-takes g c =
    takes c.args.begun.book.state.ledger.plan c.args.begun.book.state.ledger.base
    c.args.begun.book.state.has_journal c.close.result.is_broken c.args.begun.book.size c.stream-sent.result
    (report g c) c.conclude_run.result.ended (g.W.Wire.log c.args.wire.now) (g.W.Wire.log c.stream-sent.new.wire)
    c.args.begun.good (emits g c) c.conclude_run.ensures.concludes

pub returns-in-Ok-clause-left : goal.returns-in-Ok-clause-left
returns-in-Ok-clause-left g c =
    left_begun g.D.Disk.log c.args.begun.book c.stream-sent.result (report g c) c.close.result.is_broken
    c.close.result.journal c.conclude_run.result.ended c.conclude_run.result.disk (end g c)
    c.conclude_run.ensures.concludes c.conclude_run.ensures.disk

pub returns-in-Err-clause-left : goal.returns-in-Err-clause-left
returns-in-Err-clause-left g c =
    subst (λ (b : BookValue _). LeavesBegun g.D.Disk.log b (Err WorkMemory) c.disk_of.result) c.in-Err.ensures.back
    (left_unrun g.D.Disk.log c.in-Err.book c.into_parts-history.result.1 c.disk_of.result
    c.into_parts-history.ensures.legal c.into_parts-history.ensures.left c.disk_of.ensures)
