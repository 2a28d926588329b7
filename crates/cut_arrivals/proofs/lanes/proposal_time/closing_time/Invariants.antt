use Rattle.std.proofs.Common.{ℕ, ◌-◌, ◌^◌, ◌<◌, sum, slice_index}
use Rattle.cut_arrivals.specs.ranks.Closing.{IsBegun}
use Rattle.cut_arrivals.specs.lanes.Lanes.{lane}
use Rattle.cut_arrivals.proofs.lanes.proposal_time.closing_time.Given as goal

-- what began first has ended, and no time that is enough is earlier
abbrev pub invariant-loop-later : goal.invariant-loop-later
invariant-loop-later l = (i : ℕ) → i < 4
    → IsBegun (slice_index l.fn.first i) (lane i l.reported_at) (lane i l.stable_at) (slice_index l.time i)

-- some lane rises
abbrev pub decreases-loop-later : goal.decreases-loop-later
decreases-loop-later l = 2 ^ 34 - sum l.time
