use Rattle.cut_laws.proofs.Numbers.{sums_wrong, wrong_by_verdicts}
use Rattle.cut_laws.proofs.columns.wrong_decisions_need_a_wrong_quorum.Goals as goal

pub returns-clause-trials : goal.returns-clause-trials
returns-clause-trials c = wrong_by_verdicts c.receivers_are_the_rest.ensures

pub returns-clause-sums : goal.returns-clause-sums
returns-clause-sums c = λ v. sums_wrong v (wrong_by_verdicts c.receivers_are_the_rest.ensures v)
