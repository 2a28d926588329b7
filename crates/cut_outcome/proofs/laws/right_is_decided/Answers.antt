use Rattle.cut_outcome.proofs.FastRound.{most_votes_are_most}
use Rattle.cut_outcome.proofs.Outcomes.{possible_outcome}
use Rattle.cut_outcome.proofs.laws.right_is_decided.Goals as goal

pub returns-clause-most : goal.returns-clause-most
returns-clause-most c = most_votes_are_most

pub returns-clause-right : goal.returns-clause-right
returns-clause-right c = λ v t. (possible_outcome v t).counted.right

pub returns-clause-once : goal.returns-clause-once
returns-clause-once c = λ v t. (possible_outcome v t).counted.decided
