use Rattle.std.proofs.Common.{◌≡◌, ℕ, ◌+◌, ◌<◌, nat_lt, take, slice_index}
use Rattle.std.specs.List.{count_by}
use Rattle.cut_arrivals.specs.receivers.inside.Places.{image_in}
use Rattle.cut_arrivals.proofs.receivers.places.count.Given as goal

-- the key places so far are counted
abbrev pub invariant-loop-key_place : goal.invariant-loop-key_place
invariant-loop-key_place l = (i : ℕ) → i < 4 → slice_index l.sum i
    ≡ slice_index l.fn.old i + count_by (λ key_place. nat_lt (image_in l.images i key_place) (slice_index l.fn.bound i))
    (take l.key_place-index l.key_places)
