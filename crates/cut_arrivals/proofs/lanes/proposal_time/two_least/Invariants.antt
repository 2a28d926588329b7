use Rattle.std.proofs.Common.{◌≡◌, ℕ, ◌+◌, ◌<◌, length, take}
use Rattle.cut_arrivals.specs.blocks.Images.{never}
use Rattle.cut_arrivals.specs.ranks.Ranks.{AreRanks}
use Rattle.cut_arrivals.specs.lanes.Lanes.{lane}
use Rattle.cut_arrivals.proofs.lanes.proposal_time.two_least.Given as goal

-- the first two ranks of the lows so far
abbrev pub invariant-loop-low : goal.invariant-loop-low
invariant-loop-low l = record {
  many : length l.least ≡ 2;
  ranks : (i : ℕ) → i < 4 → AreRanks (never + 1) (take l.low-index (lane i l.reported_at)) (lane i l.least);
}
