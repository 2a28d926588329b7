use Rattle.cut_outcome.proofs.Outcomes as lemmas
use Rattle.cut_outcome.proofs.laws.settled_lies_within.Goals as goal

pub returns : goal.returns
returns c = lemmas.settled_lies_within
