use Rattle.cut_laws.proofs.Numbers.{right_votes_are, sums_lost, sums_right_votes}
use Rattle.cut_laws.proofs.columns.the_others_are_right.Goals as goal

pub returns-clause-trials : goal.returns-clause-trials
returns-clause-trials c = right_votes_are c.right_is_decided.ensures.most c.receivers_are_the_rest.ensures

pub returns-clause-sums : goal.returns-clause-sums
returns-clause-sums c = λ v.
    sums_right_votes v (right_votes_are c.right_is_decided.ensures.most c.receivers_are_the_rest.ensures v)

pub returns-clause-right : goal.returns-clause-right
returns-clause-right c = sums_lost c.receivers_are_the_rest.ensures
