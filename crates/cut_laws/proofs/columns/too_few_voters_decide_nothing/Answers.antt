use Rattle.cut_laws.proofs.Numbers.{sums_too_few, trial_too_few}
use Rattle.cut_laws.proofs.columns.too_few_voters_decide_nothing.Goals as goal

pub returns-clause-trials : goal.returns-clause-trials
returns-clause-trials c = trial_too_few c.decided_by_votes.ensures.trials c.right_is_decided.ensures.once

pub returns-clause-sums : goal.returns-clause-sums
returns-clause-sums c =
    sums_too_few c.decided_by_votes.ensures.trials c.right_is_decided.ensures.once c.right_is_decided.ensures.right
