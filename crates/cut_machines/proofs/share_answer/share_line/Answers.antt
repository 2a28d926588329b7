use Rattle.std.proofs.Common.{rules}
use Rattle.cut_machines.specs.Share.{share_line}
use Rattle.cut_machines.proofs.share_answer.share_line.Goals as goal

pub returns : goal.returns
unfolding share_line
returns c = search rules
