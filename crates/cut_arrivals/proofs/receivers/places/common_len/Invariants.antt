use Rattle.std.proofs.Common.{◌≡◌, ◌≤◌, ℕ, ◌<◌, ◌-◌, length, slice_index}
use Rattle.cut_arrivals.proofs.receivers.places.common_len.Given as goal

abbrev pub invariant-loop-len : goal.invariant-loop-len
invariant-loop-len l = record {
  left : l.len ≤ length l.left;
  right : l.len ≤ length l.right;
  same : (i : ℕ) → i < l.len → slice_index l.right i ≡ slice_index l.left i;
}

abbrev pub decreases-loop-len : goal.decreases-loop-len
decreases-loop-len l = length l.left - l.len
