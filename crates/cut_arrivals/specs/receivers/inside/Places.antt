-- What only the crate's own clauses and proofs cite, beside specs/Places.antt.
use Rattle.std.specs.Prelude.{◌≡◌, ℕ, ◌+◌, ◌*◌, ◌<◌, List, [], length, slice_index, slice_index_or}
use Rattle.cut_arrivals.specs.blocks.Images.{image_at, place_in, row_of}
use Rattle.cut_arrivals.specs.proposals.Reception.{Reception}
use Rattle.cut_arrivals.specs.declared.candidates.key_places.KeyPlace.{KeyPlace}
use Rattle.cut_arrivals.specs.declared.receivers.deliveries.Deliveries.{Deliveries}
use Rattle.cut_arrivals.specs.receivers.Received.{reception_of}

-- the image of key q of a block in lane i
abbrev pub image_for : List (List (List ℕ)) → ℕ → ℕ → ℕ → ℕ
image_for images b q i = slice_index (slice_index_or (slice_index_or images b []) q []) i

-- the image that stands in a key place in lane i
abbrev pub image_in : List (List (List ℕ)) → ℕ → KeyPlace → ℕ
image_in images i key_place = image_for images key_place.block key_place.key i

-- the receiver in lane i
abbrev pub reception_to : Deliveries → ℕ → Reception
reception_to d i = reception_of d.trial (slice_index d.receivers i)

-- in lane i stand the images of a copy's keys of some blocks at a receiver
abbrev pub AreImagesOf : Reception → ℕ → ℕ → List ℕ → List (List (List ℕ)) → Type 0
AreImagesOf x c i blocks images =
    (b q : ℕ) → b < length blocks → q < 8
    → image_for images b q i ≡ image_at x.source (place_in (row_of c x.receiver + slice_index blocks b) q)

-- in lane i stand the images at its receiver of the first blocks of the key places, of each copy
abbrev pub KnowsImages : Deliveries → ℕ → Type 0
KnowsImages d i =
    (c b q : ℕ) → c < d.trial.copies → b < d.kept.known → q < 8
    → image_for d.kept.images.now (c * d.kept.blocks + b) q i
    ≡ image_at d.trial.blocks.now
    (place_in (row_of c (slice_index d.receivers i) + slice_index d.key_places.now.blocks.items b) q)
