use Rattle.cut_outcome.proofs.Crashes as lemmas
use Rattle.cut_outcome.proofs.laws.silent_where_nothing_fails.Goals as goal

pub returns : goal.returns
returns c = lemmas.silent_where_nothing_fails
