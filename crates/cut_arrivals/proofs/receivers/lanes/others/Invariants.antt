use Rattle.std.proofs.Common.{◌≡◌, ℕ, ◌<◌, cond, slice_index}
use Rattle.cut_arrivals.specs.lanes.Lanes.{lane}
use Rattle.cut_arrivals.specs.receivers.inside.LaneVerdicts.{is_other}
use Rattle.cut_arrivals.proofs.receivers.lanes.others.Given as goal

-- whether some candidate so far differs from its flag
abbrev pub invariant-loop-place : goal.invariant-loop-place
invariant-loop-place l =
    (i : ℕ) → i < 4 → slice_index l.marks i ≡ cond (is_other (slice_index l.fn.time i)
    (lane i l.stable_at) l.wanted l.place) 1 0
