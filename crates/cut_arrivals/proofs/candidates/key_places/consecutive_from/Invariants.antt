use Rattle.std.proofs.Common.{◌≡◌, ℕ, ◌+◌, ◌<◌, slice_index_or}
use Rattle.cut_arrivals.specs.declared.candidates.key_places.KeyPlace.{KeyPlace}
use Rattle.cut_arrivals.specs.candidates.KeyPlaces.{index_of}
use Rattle.cut_arrivals.proofs.candidates.key_places.consecutive_from.Given as goal

abbrev pub invariant-loop-place : goal.invariant-loop-place
invariant-loop-place l =
    (j : ℕ) (d : KeyPlace) → j < l.place → index_of (slice_index_or l.key_places j d) ≡ l.first + j
