use Rattle.cut_board.proofs.Additions.{counts_are_seen}
use Rattle.cut_board.proofs.laws.counts_add.Goals as goal

pub returns-clause-seen : goal.returns-clause-seen
returns-clause-seen c = counts_are_seen
