use Rattle.std.proofs.Common.{◌≡◌, Ok, Option, Some, None, subst}
use Rattle.std.proofs.lemmas.Result.{err_from_is_err_and}
use Rattle.cut_ledger.specs.declared.slip.Slip.{Slip}
use Rattle.cut_journal.specs.Unread.{IsReadNext}
use Rattle.cut_status.proofs.Readings.{all_read, further, not_read, under_way}
use Rattle.cut_status.proofs.reading.tally_of.Goals as goal

pub returns-in_err-slips-clause-err : goal.returns-in_err-slips-clause-err
returns-in_err-slips-clause-err c =
    let p = err_from_is_err_and c.from_residual.result c.from_residual.ensures.1 in
    rw (p.1, p.2) c.in_err-slips.ensures.err

pub loop-tally-init : goal.loop-tally-init
loop-tally-init c =
    under_way c.args.plan c.args.bytes.now c.in-Ok.tally c.in_ok-slips.slips c.in_ok-slips.ensures.read
    c.in-Ok.ensures.plan c.in-Ok.ensures.empty

pub returns-in_err-slip-clause-err : goal.returns-in_err-slip-clause-err
returns-in_err-slip-clause-err c =
    let p = err_from_is_err_and c.from_residual-in_err-slip.result c.from_residual-in_err-slip.ensures.1 in
    rw (p.1, p.2) (not_read c.args.plan c.args.bytes.now c.loop-tally.tally c.loop-tally.slips c.next.new.self
    c.in_err-slip.field-0.0 c.loop-tally.invariant c.in_err-slip.ensures)

pub loop-tally-preserved : goal.loop-tally-preserved
loop-tally-preserved c =
    let next : IsReadNext (Ok (Some c.in-Some.slip)) c.loop-tally.slips c.next.new.self =
    subst (λ (o : Option Slip). IsReadNext (Ok o) c.loop-tally.slips c.next.new.self) c.in-Some.is
    c.in_ok-slip.ensures in
    further c.args.plan c.args.bytes.now c.loop-tally.tally c.add.new.self c.loop-tally.slips c.next.new.self
    c.in-Some.slip c.loop-tally.invariant next c.add.ensures.plan c.in-Ok-add.ensures.added

pub returns-clause-read : goal.returns-clause-read
returns-clause-read c =
    let none : c.in_ok-slip.field-0 ≡ None = cc in
    let next : IsReadNext (Ok None) c.loop-tally.slips c.next.new.self =
    subst (λ (o : Option Slip). IsReadNext (Ok o) c.loop-tally.slips c.next.new.self) none c.in_ok-slip.ensures in
    all_read c.args.plan c.args.bytes.now c.loop-tally.tally c.loop-tally.slips c.next.new.self
    c.loop-tally.invariant next
