use Rattle.cut_board.proofs.Additions.{reads_are_seen}
use Rattle.cut_board.proofs.laws.reads_are_seen.Goals as goal

pub returns : goal.returns
returns c = reads_are_seen
