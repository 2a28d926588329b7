use Rattle.std.proofs.Common.{arith}
use Rattle.cut_arrivals.proofs.Words.{word_below}
use Rattle.cut_arrivals.proofs.blocks.laws.images_are_below_never.Goals as goal

pub returns : goal.returns
returns c d place =
    grind (arith, word_below)
