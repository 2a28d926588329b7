use Rattle.std.proofs.Common.{ℕ, Bool, List, sym, subst}
use Rattle.std.specs.Prelude.{is_some}
use Rattle.cut_plan.specs.Values.{Values}
use Rattle.cut_ledger.specs.declared.slip.Slip.{Slip}
use Rattle.cut_ledger.specs.Slips.{AreGood}
use Rattle.cut_ledger.proofs.SlipLemmas.{none_bad}
use Rattle.cut_pool.specs.Running.{slips_of, HasEnded}
use Rattle.cut_pool.proofs.Leaving.{left_over, left_run}
use Rattle.cut_pool.proofs.study_run.StudyRun.run.Goals.{After-run}
use Rattle.cut_pool.proofs.study_run.StudyRun.run.Goals as goal

pub invariant_of-begun-clause-good : goal.invariant_of-begun-clause-good
invariant_of-begun-clause-good g c =
    let b = c.in-Ok.book in
    subst (λ (v : Values). AreGood v b.state.ledger.base) (sym c.in-Ok.ensures.slips.0)
    (subst (λ (l : List Slip). AreGood c.args.self.plan.now l) (sym c.in-Ok.ensures.slips.1)
    c.in-Ok.ensures.good)

ends : (g : _) (c : After-run g) → HasEnded c.args.self.plan.now (slips_of c.args.self.kept)
    (is_some c.args.self.kept) c.args.self.piece_size c.run.result.ended
ends g c =
    let b = c.in-Ok.book.state in
    let same = c.in-Ok.ensures.slips in
    let result = c.run.result.ended in
    subst (λ (v : Values). HasEnded v (slips_of c.args.self.kept) (is_some c.args.self.kept) c.args.self.piece_size result)
    same.0
    (subst (λ (l : List Slip). HasEnded b.ledger.plan l (is_some c.args.self.kept) c.args.self.piece_size result) same.1
    (subst (λ (h : Bool). HasEnded b.ledger.plan b.ledger.base h c.args.self.piece_size result) same.2
    (subst (λ (size : ℕ). HasEnded b.ledger.plan b.ledger.base b.has_journal size result) c.in-Ok.ensures.size
    c.run.ensures.ended)))

pub returns-in-Ok-clause-ended : goal.returns-in-Ok-clause-ended
returns-in-Ok-clause-ended g c = ends g c

pub returns-in-Ok-clause-left : goal.returns-in-Ok-clause-left
returns-in-Ok-clause-left g c =
    let v : Values = c.args.self.plan.now in
    let kept = c.args.self.kept in
    let result = c.run.result.ended in
    left_run g.D.Disk.log v kept c.in-Ok.book result c.run.result.disk
    c.studies_take_their_own.ensures c.plans_are_accepted.ensures.accepted c.in-Ok.ensures.slips.0
    c.in-Ok.ensures.slips.1 c.in-Ok.ensures.slips.2 c.in-Ok.ensures.journal.0 c.in-Ok.ensures.journal.1
    (λ number is. none_bad v (slips_of kept) number c.in-Ok.ensures.good
    (subst (λ r. HasEnded v (slips_of kept) (is_some kept) c.args.self.piece_size r) is (ends g c)))
    c.run.ensures.left

pub returns-in-Err-clause-left : goal.returns-in-Err-clause-left
returns-in-Err-clause-left g c =
    left_over g.D.Disk.log c.args.self.plan.now c.args.self.kept c.in-Err.fault c.in-Err.journal c.disk_of.result
    c.args.self.journal c.args.self.read c.in-Err.ensures.err.1 c.in-Err.ensures.err.0 c.disk_of.ensures
