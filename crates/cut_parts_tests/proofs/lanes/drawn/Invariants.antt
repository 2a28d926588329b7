use Rattle.std.proofs.Common.{◌≡◌, ℕ, ◌<◌, ◌≤◌, length, All}
use Rattle.cut_arrivals.specs.blocks.Images.{never}
use Rattle.cut_arrivals.specs.lanes.Lanes.{lane}
use Rattle.cut_parts_tests.proofs.lanes.drawn.Given as goal

-- a time of each receiver for each turn
abbrev pub invariant-loop : goal.invariant-loop
invariant-loop l = record {
  many : length l.times.items ≡ l.counter;
  times : (i : ℕ) → i < 4 → All (λ x. x ≤ never) (lane i l.times.items);
}
