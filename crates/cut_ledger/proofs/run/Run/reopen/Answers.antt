use Rattle.std.proofs.Common.{◌≡◌, ◌∙◌, ◌-◌, Bool, List, ap, arith, rules, sym}
use Rattle.cut_ledger.proofs.Words.{AreTrue, Contents, IsReached, Slip, StudyState, each_number, over_base}
use Rattle.cut_ledger.proofs.Words.{slips_found, state_of}
use Rattle.cut_ledger.proofs.Events.{found}
use Rattle.cut_ledger.proofs.TrueSlips.{true_are_good}
use Rattle.cut_ledger.proofs.run.Run.reopen.Goals as goal

no_slip : Slip
no_slip = record { piece = record { first = 0; count = 0 }; totals = each_number (λ n. 0) }

-- the slips that were found
true_slips : (s now : StudyState) (keep : Bool) (slips : List Slip) → IsReached s.ledger.plan s → s ≡ now
    → slips ≡ slips_found now keep → AreTrue s.ledger.plan slips
true_slips s now keep slips h is found_are = grind (arith, found)

pub open-requires-clause-ledger : goal.open-requires-clause-ledger
open-requires-clause-ledger c = record {
  some = search rules;
  over = c.in-Ok.ensures.ok ∙ ap (λ (ss : List Slip). over_base c.in_ok-plan.plan ss) c.as_slice.ensures.value
      ∙ ap (λ (l : Contents). over_base l.plan c.in_ok-slips.slips.items) (sym c.in-Ok.ensures.ok);
  slips = rw (c.in-Ok.ensures.ok, c.in_ok-plan.ensures.value, c.plan.ensures.value) (true_slips
      (state_of c.self.inside) _ c.args.keep _ c.self.invariant c.self.view_is c.in_ok-slips.ensures);
}

pub unreachable-requires : goal.unreachable-requires
unreachable-requires c =
    let are = true_slips (state_of c.self.inside) _ c.args.keep _ c.self.invariant c.self.view_is
    c.in_ok-slips.ensures in
    let good = true_are_good c.pieces_have_possible_totals.ensures.pieces _ _ are in
    let reported = rw c.in-Err-BadSlip.field-0-is at c.in-Err-BadSlip.ensures.err in
    let first = rw (c.as_slice.ensures.value, c.in_ok-plan.ensures.value, c.plan.ensures.value) at reported in
    first.bad no_slip (good (c.in-Err-BadSlip.field-0-0 - 1) no_slip (omega (arith, first.numbered, first.within))
    (omega (arith, first.numbered, first.within)))
