use Rattle.std.proofs.Common.{arith}
use Rattle.cut_sets.proofs.ranges.range_set.RangeSet.is_of_section.Goals as goal

pub returns : goal.returns
returns c =
    grind arith
