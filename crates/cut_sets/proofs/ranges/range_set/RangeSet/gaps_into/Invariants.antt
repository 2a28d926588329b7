use Rattle.std.proofs.Common.{◌-◌, ◌≡◌, ◌<◌, ◌≤◌, ◌++◌, ℕ, false, not}
use Rattle.cut_sets.specs.ranges.Held.{has}
use Rattle.cut_sets.specs.ranges.Spans.{spans}
use Rattle.cut_sets.proofs.ranges.range_set.RangeSet.gaps_into.Given as goal

-- the numbers from `start` on are not in the set, and the gaps so far with those to come are all
abbrev pub invariant-loop-from : goal.invariant-loop-from
invariant-loop-from l = record {
  order : l.start ≤ l.from;
  within : l.from ≤ l.end;
  free : (t : ℕ) → l.start ≤ t → t < l.from → has l.fn.self t ≡ false;
  so_far : l.gaps.items ++ spans (λ t. not (has l.fn.self t)) l.start (l.end - l.start) ≡ l.initial.gaps.items
      ++ spans (λ t. not (has l.fn.self t)) l.fn.span.first l.fn.span.count;
}

abbrev pub decreases-loop-from : goal.decreases-loop-from
decreases-loop-from l = l.end - l.from
