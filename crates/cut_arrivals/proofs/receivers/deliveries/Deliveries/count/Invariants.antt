use Rattle.std.proofs.Common.{◌≡◌, ℕ, ◌*◌, ◌^◌, ◌<◌, ◌≤◌, slice_index}
use Rattle.cut_arrivals.specs.receivers.inside.Places.{reception_to, KnowsImages}
use Rattle.cut_arrivals.proofs.Counts.{count_below}
use Rattle.cut_arrivals.proofs.receivers.deliveries.Deliveries.count.Given as goal

-- the deliveries of the copies so far are counted
abbrev pub invariant-loop-copy : goal.invariant-loop-copy
invariant-loop-copy l = record {
  until : (i : ℕ) → i < 4 → KnowsImages l.self i
      → slice_index l.until i ≡ count_below (reception_to l.self i) l.copy (slice_index l.next i);
  before : (i : ℕ) → i < 4 → KnowsImages l.self i
      → slice_index l.before i ≡ count_below (reception_to l.self i) l.copy (slice_index l.fn.time i);
  few_until : (i : ℕ) → i < 4 → slice_index l.until i ≤ l.copy * 2 ^ 16;
  few_before : (i : ℕ) → i < 4 → slice_index l.before i ≤ l.copy * 2 ^ 16;
}
