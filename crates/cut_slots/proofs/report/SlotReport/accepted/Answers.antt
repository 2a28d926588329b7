use Rattle.std.proofs.Common.{inl, inr, refl}
use Rattle.cut_plan.specs.Canonical.{canonical_text}
use Rattle.cut_plan.specs.Values.{Values}
use Rattle.cut_plan.proofs.RoundTrip.{reads_back}
use Rattle.cut_slots.proofs.report.SlotReport.accepted.Goals as goal

pub returns-in-Some-clause-few : goal.returns-in-Some-clause-few
returns-in-Some-clause-few c =
    let v : Values = c.in-Some.history.opening.plan in
    inr (canonical_text v, v, reads_back v c.accepted.ensures.plan, c.accepted.ensures.few)

pub returns-in-None-clause-few : goal.returns-in-None-clause-few
returns-in-None-clause-few c = inl refl
