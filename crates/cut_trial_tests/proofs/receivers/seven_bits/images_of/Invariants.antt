use Rattle.std.proofs.Common.{ℕ, ◌<◌, ◌≤◌, All}
use Rattle.cut_arrivals.specs.blocks.Images.{never}
use Rattle.cut_arrivals.specs.lanes.Lanes.{lane}
use Rattle.cut_trial_tests.proofs.receivers.seven_bits.images_of.Given as goal

-- every image is a time
abbrev pub invariant-loop-alert : goal.invariant-loop-alert
invariant-loop-alert l = record {
  times : (i : ℕ) → i < 4 → All (λ x. x ≤ never) (lane i l.images.items);
}
