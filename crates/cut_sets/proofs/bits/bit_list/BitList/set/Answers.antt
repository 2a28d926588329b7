use Rattle.std.proofs.Common.{arith}
use Rattle.std.proofs.lemmas.Grind.{get_or_default_zero}
use Rattle.cut_sets.proofs.Places.{long, one_more_set}
use Rattle.cut_sets.proofs.bits.bit_list.BitList.set.Goals as goal

pub index-requires : goal.index-requires
index-requires c =
    grind (arith, long)

pub index_mut-requires : goal.index_mut-requires
index_mut-requires c =
    grind (arith, long)

pub returns : goal.returns
returns c =
    grind (arith, long, get_or_default_zero, one_more_set)
