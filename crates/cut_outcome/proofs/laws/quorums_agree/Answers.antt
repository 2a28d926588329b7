use Rattle.cut_outcome.proofs.FastRound as lemmas
use Rattle.cut_outcome.proofs.laws.quorums_agree.Goals as goal

pub returns : goal.returns
returns c = lemmas.quorums_agree
