use Rattle.std.proofs.Common.{arith}
use Rattle.std.proofs.lemmas.List.{get_or_read, length-map}
use Rattle.cut_sets.proofs.SetLemmas.{reserved_is}
use Rattle.cut_sets.proofs.ranges.range_set.RangeSet.reserve.Goals as goal

pub returns-clause-ok : goal.returns-clause-ok
returns-clause-ok c =
    grind (arith, length-map, get_or_read, reserved_is)
