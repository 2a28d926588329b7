use Rattle.std.proofs.Common.{ℕ, ◌<◌, ◌≤◌, All}
use Rattle.cut_arrivals.specs.blocks.Images.{never}
use Rattle.cut_arrivals.specs.lanes.Lanes.{lane}
use Rattle.cut_trial_tests.proofs.receivers.seven_bits.proposal_time_of.Given as goal

-- every low is a time
abbrev pub invariant-loop-subject : goal.invariant-loop-subject
invariant-loop-subject g l = record {
  times : (i : ℕ) → i < 4 → All (λ x. x ≤ never) (lane i l.reported_at.items);
}
