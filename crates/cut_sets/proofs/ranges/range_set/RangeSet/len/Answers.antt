use Rattle.std.proofs.Common.{arith}
use Rattle.cut_sets.proofs.SetLemmas.{length_is}
use Rattle.cut_sets.proofs.ranges.range_set.RangeSet.len.Goals as goal

pub overflow_cast-result : goal.overflow_cast-result
overflow_cast-result c =
    grind arith

pub overflow_mul-result : goal.overflow_mul-result
overflow_mul-result c =
    grind arith

pub returns : goal.returns
returns c =
    grind (arith, length_is)
