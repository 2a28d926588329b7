use Rattle.cut_outcome.proofs.Cautious as lemmas
use Rattle.cut_outcome.proofs.laws.higher_h.Goals as goal

pub returns-clause-verdicts : goal.returns-clause-verdicts
returns-clause-verdicts c = lemmas.higher_h c.a_wider_gap_proposes_later.ensures.high

pub returns-clause-totals : goal.returns-clause-totals
returns-clause-totals c =
    λ v k h r d first second. lemmas.totals_cautious v k h k.l r d
    (λ a edges j. lemmas.higher_h c.a_wider_gap_proposes_later.ensures.high v k h r d a edges
    j first second)
