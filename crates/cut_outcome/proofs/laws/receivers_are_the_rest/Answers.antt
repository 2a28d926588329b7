use Rattle.cut_outcome.proofs.Roles as lemmas
use Rattle.cut_outcome.proofs.laws.receivers_are_the_rest.Goals as goal

pub returns : goal.returns
returns c = lemmas.receivers_are_the_rest
