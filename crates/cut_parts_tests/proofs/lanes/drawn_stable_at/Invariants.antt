use Rattle.std.proofs.Common.{◌≡◌, length}
use Rattle.cut_parts_tests.proofs.lanes.drawn_stable_at.Given as goal

-- an end for each beginning so far
abbrev pub invariant-loop-low : goal.invariant-loop-low
invariant-loop-low l = length l.stable_at.items ≡ l.low-index
