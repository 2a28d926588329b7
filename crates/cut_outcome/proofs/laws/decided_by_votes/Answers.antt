use Rattle.cut_outcome.proofs.Outcomes.{by_votes}
use Rattle.cut_outcome.proofs.Sum.{sums_by_votes}
use Rattle.cut_outcome.proofs.laws.decided_by_votes.Goals as goal

pub returns-clause-trials : goal.returns-clause-trials
returns-clause-trials c = by_votes

pub returns-clause-sums : goal.returns-clause-sums
returns-clause-sums c = sums_by_votes
