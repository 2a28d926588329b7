use Rattle.std.proofs.Common.{Some, ap, refl}
use Rattle.cut_ledger.proofs.Words.{Slip, StudyState, Values, failed, state_of}
use Rattle.cut_ledger.proofs.Events.{can_take, failed_reached, sent_reached}
use Rattle.cut_ledger.proofs.run.Run.fail_append.Goals as goal

pub invariant_of-self : goal.invariant_of-self
invariant_of-self c =
    let v : Values = c.self.inside.ledger.contents.plan in
    let s : StudyState = state_of c.self.inside in
    sent_reached v (failed s c.args.offered.now) _ (failed_reached v s c.args.offered.now c.self.invariant
    (can_take v s c.args.offered.now c.self.invariant (rw (← c.self.view_is) at c.in_default.ensures.unbroken)
    (rw (← c.self.view_is) at c.in_default.ensures.none) c.slip_of-slip.ensures.piece)) refl refl
    (ap (λ (slip : Slip). Some slip) c.slip_of-slip.ensures.slip) refl c.self.invariant.sent
