use Rattle.std.proofs.Common.{List, ap, sym, subst}
use Rattle.cut_ledger.specs.Machine.{StudyState}
use Rattle.cut_ledger.specs.Slips.{AreGood}
use Rattle.cut_ledger.specs.World.{AreTrue}
use Rattle.cut_ledger.specs.declared.slip.Slip.{Slip}
use Rattle.cut_slots.proofs.Trusted.{may_begin}
use Rattle.cut_slots.proofs.slot.Slot.begin.Goals as goal

pub keep-requires-clause-begun : goal.keep-requires-clause-begun
keep-requires-clause-begun g c =
    let base = sym c.in_ok-begun.ensures.base in
    may_begin g.K.CallLedger.trusts c.args.plan _ _
    (ap (λ (s : StudyState). s.ledger.plan) c.in_ok-begun.ensures.fresh.state)
    (subst (λ (slips : List Slip). AreGood c.args.plan slips) base c.in_ok-begun.ensures.good)
    (λ t. subst (λ (slips : List Slip). AreTrue c.args.plan slips) base
    (c.in_ok-begun.ensures.trusted (c.requires.trusted t)))
