use Rattle.std.proofs.Common.{arith}
use Rattle.cut_sets.proofs.SetLemmas.{length_is}
use Rattle.cut_sets.proofs.ranges.range_set.RangeSet.end_of.Goals as goal

pub overflow_add-result : goal.overflow_add-result
overflow_add-result c =
    grind (arith, length_is)
