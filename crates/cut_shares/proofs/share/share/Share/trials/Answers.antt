use Rattle.std.proofs.Common.{arith}
use Rattle.cut_shares.proofs.Counting.{count_joined}
use Rattle.cut_shares.proofs.share.share.Share.trials.Goals as goal

pub loop-cell-preserved : goal.loop-cell-preserved
loop-cell-preserved c = grind (arith, count_joined)
