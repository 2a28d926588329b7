use Rattle.cut_shares.proofs.Turns.{one_has}
use Rattle.cut_shares.proofs.share.laws.shares_are_a_partition.Goals as goal

pub returns-clause-all : goal.returns-clause-all
returns-clause-all c = one_has
