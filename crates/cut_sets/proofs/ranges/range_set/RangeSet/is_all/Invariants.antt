use Rattle.std.proofs.Common.{◌-◌, ◌≡◌, ◌<◌, ◌≤◌, ℕ, true, not}
use Rattle.cut_sets.specs.ranges.inside.Edges.{flipped}
use Rattle.cut_sets.specs.ranges.Held.{has}
use Rattle.cut_sets.proofs.ranges.range_set.RangeSet.is_all.Given as goal

abbrev pub invariant-loop-from : goal.invariant-loop-from
invariant-loop-from l = record {
  low : l.fn.span.first ≤ l.from;
  all : (t : ℕ) → l.fn.span.first ≤ t → t < l.from → flipped (not l.fn.held) (has l.fn.self t) ≡ true;
}

abbrev pub decreases-loop-from : goal.decreases-loop-from
decreases-loop-from l = l.end - l.from
