use Rattle.std.proofs.Common.{ℕ, ◌<◌, slice_index}
use Rattle.cut_arrivals.proofs.Closings.{IsRaisedTo}
use Rattle.cut_arrivals.specs.lanes.Lanes.{lane}
use Rattle.cut_arrivals.proofs.lanes.proposal_time.later_time.Given as goal

-- of the processes so far
abbrev pub invariant-loop-place : goal.invariant-loop-place
invariant-loop-place l = (i first : ℕ) → i < 4
    → IsRaisedTo first l.place (lane i l.reported_at) (lane i l.stable_at) (slice_index l.fn.time i)
    (slice_index l.later i)
