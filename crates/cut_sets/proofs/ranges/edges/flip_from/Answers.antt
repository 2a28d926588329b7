use Rattle.std.proofs.Common.{arith}
use Rattle.cut_sets.proofs.ranges.edges.flip_from.Goals as goal

pub returns-then-index-number-clause-sorted : goal.returns-then-index-number-clause-sorted
returns-then-index-number-clause-sorted c =
    grind arith

pub returns-clause-sorted : goal.returns-clause-sorted
returns-clause-sorted c =
    grind arith
