use Rattle.std.proofs.Common.{◌≡◌, ℕ, ◌<◌, ◌==◌, cond, take, slice_index}
use Rattle.std.specs.List.{list_any}
use Rattle.cut_arrivals.specs.lanes.Lanes.{lane}
use Rattle.cut_arrivals.proofs.lanes.proposal_time.marks.Given as goal

-- whether some low so far is the time
abbrev pub invariant-loop-low : goal.invariant-loop-low
invariant-loop-low l = (i : ℕ) → i < 4
    → slice_index l.marks i ≡ cond (list_any (λ x. x == slice_index l.fn.time i)
    (take l.low-index (lane i l.reported_at))) 1 0
