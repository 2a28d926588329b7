use Rattle.cut_outcome.proofs.Cautious as lemmas
use Rattle.cut_outcome.proofs.laws.wider_gap.Goals as goal

pub returns-clause-verdicts : goal.returns-clause-verdicts
returns-clause-verdicts c =
    λ v k h l r d. lemmas.wider_gap v k h l r d c.a_wider_gap_proposes_later.ensures.both

pub returns-clause-totals : goal.returns-clause-totals
returns-clause-totals c = λ v k h l r d explicit lower within higher.
    lemmas.totals_cautious v k h l r d
    (λ a edges j. lemmas.wider_gap v k h l r d c.a_wider_gap_proposes_later.ensures.both a edges j
    explicit lower within higher)
