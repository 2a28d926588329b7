use Rattle.std.proofs.Common.{◌≡◌, ◌<◌, ℕ, length, get_or}
use Rattle.cut_rings.proofs.ring.places.Given as goal

-- the processes placed so far are found where they stand
abbrev pub invariant-loop-place : goal.invariant-loop-place
invariant-loop-place l = record {
  long : length l.positions.items ≡ l.nodes;
  placed : (i : ℕ) → i < l.place → get_or l.positions.items (get_or l.order i 0) 0 ≡ i;
}
