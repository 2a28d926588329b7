use Rattle.std.proofs.Common.{◌≡◌, max, fold}
use Rattle.cut_trial.proofs.ballot.Ballot.largest.Given as goal

abbrev pub invariant-loop-votes : goal.invariant-loop-votes
invariant-loop-votes l = fold max l.most l.votes-iterator ≡ fold max 0 l.initial.votes-iterator
