-- The times of candidates in a lane, by the keys that are drawn.
use Rattle.std.specs.Prelude.{◌≡◌, ℕ, ◌+◌, ◌*◌, ◌<◌, false, List, [], map, min, max, length, slice_index, slice_index_or, Option}
use Rattle.std.specs.Prelude.{Some, None, ◌⊎◌}
use Rattle.cut_detector.specs.Rule.{rule_in}
use Rattle.cut_rings.specs.Edges.{set_of}
use Rattle.cut_arrivals.specs.blocks.Images.{never, eight, row_of, least_image}
use Rattle.cut_arrivals.specs.lanes.Lanes.{lane}
use Rattle.cut_arrivals.specs.proposals.Reception.{Reception, lows_at, highs_at}
use Rattle.cut_arrivals.specs.declared.candidates.candidate.Candidate.{Candidate}
use Rattle.cut_arrivals.specs.declared.candidates.key_places.KeyPlace.{KeyPlace}
use Rattle.cut_arrivals.specs.candidates.KeyPlaces.{key_in}
use Rattle.cut_arrivals.specs.candidates.Candidates.{IsCandidate, subjects_of}
use Rattle.cut_arrivals.specs.declared.receivers.trial.Trial.{Trial}
use Rattle.cut_arrivals.specs.declared.receivers.images.Images.{Images}
use Rattle.cut_arrivals.specs.receivers.Received.{reception_of}

-- the receiver in lane i
abbrev pub reception_in : Images → ℕ → Reception
reception_in images i = reception_of images.trial (slice_index images.receivers i)

-- the subjects of the candidates
abbrev pub subjects_in : Images → List ℕ
subjects_in images = subjects_of images.trial.candidates.now.candidates.items

-- the least image over the copies of a key of a block
abbrev pub image_of_key : Reception → ℕ × ℕ → ℕ
image_of_key x key = least_image x.source x.copies key.0 key.1 (row_of 0 x.receiver)

-- the images in some key places, those of each receiver in its lane
pub record AreKeyImages (images : Images) (key_places : List KeyPlace) (xs : List (List ℕ)) : Type 0 where
  pub lanes : (i : ℕ) → i < 4 → lane i xs ≡ map (λ key_place. image_of_key (reception_in images i)
      (key_in images.trial.candidates.now.blocks.items key_place)) key_places
  pub many : length xs ≡ length key_places

-- the image of a key that may not be there
abbrev pub image_if : Reception → Option (ℕ × ℕ) → ℕ
image_if x None = never
image_if x (Some key) = image_of_key x key

-- from an image on, or earlier where an observer may add the ring for s once both are reported
abbrev pub time_if : Reception → ℕ → ℕ → Option ℕ → ℕ
time_if x s image None = image
time_if x s image (Some o) = min image (max (lows_at x never s) (lows_at x never o))

-- from when on a ring counts for s, by what makes it count
abbrev pub time_of_cause : Reception → ℕ → Option (ℕ × ℕ) × Option ℕ → ℕ
time_of_cause x s cause = time_if x s (image_if x cause.0) cause.1

-- a candidate of a trial, and its subject is a process
pub record IsCandidateOf (t : Trial) (d : Candidate) : Type 0 where
  pub process : d.subject < t.rings.now.nodes
  pub candidate : IsCandidate t.rings.now (rule_in t.rule) (set_of t.edges.now) t.candidates.now.blocks.items
      (subjects_of t.candidates.now.candidates.items) d

-- lows of all candidates
abbrev pub AreReportedAt : Images → List (List ℕ) → Type 0
AreReportedAt images reported_at = (i : ℕ) → i < 4
    → lane i reported_at ≡ map (λ s. lows_at (reception_in images i) never s) (subjects_in images)

-- lows of all candidates, and those of one subject
pub record AreReportedAtAnd (images : Images) (s : ℕ) (low : List ℕ) (reported_at : List (List ℕ)) : Type 0 where
  pub all : AreReportedAt images reported_at
  pub own : (i : ℕ) → i < 4 → slice_index low i ≡ lows_at (reception_in images i) never s

-- highs of all candidates
abbrev pub AreStableAt : Images → List (List ℕ) → Type 0
AreStableAt images stable_at = (i : ℕ) → i < 4
    → lane i stable_at ≡ map (λ s. highs_at (reception_in images i) never s) (subjects_in images)

-- a vector has the highs of s
abbrev pub IsHigh : Images → ℕ → List ℕ → Type 0
IsHigh images s high = (i : ℕ) → i < 4 → slice_index high i ≡ highs_at (reception_in images i) never s

-- times of all candidates, which are the highs of the first n, and of those that gain no ring
pub record AreStableAtTo (images : Images) (n : ℕ) (stable_at : List (List ℕ)) : Type 0 where
  pub many : length stable_at ≡ length images.trial.candidates.now.candidates.items
  pub known : (u : ℕ) (d : Candidate) → u < length stable_at
      → (u < n) ⊎ ((slice_index_or images.trial.candidates.now.candidates.items u d).gains ≡ false)
      → IsHigh images (slice_index_or images.trial.candidates.now.candidates.items u d).subject
      (slice_index_or stable_at u [])

-- the images that are drawn for four receivers of a trial, the least over its copies
abbrev pub AreLeast : Trial → List ℕ → List (List (List ℕ)) → Type 0
AreLeast t receivers drawn =
    drawn ≡ map (λ block. eight (least_image t.blocks.now t.copies block) (map (λ j. row_of 0 j) receivers))
    t.candidates.now.blocks.items

-- the images of the first copies, one after another
pub record AreCopies (t : Trial) (receivers : List ℕ) (copies : ℕ) (drawn : List (List (List ℕ))) : Type 0 where
  pub many : length drawn ≡ copies * length t.candidates.now.blocks.items
  pub each : (c b : ℕ) → c < copies → b < length t.candidates.now.blocks.items
      → slice_index_or drawn (c * length t.candidates.now.blocks.items + b) []
      ≡ eight (least_image t.blocks.now 1 (slice_index t.candidates.now.blocks.items b))
      (map (λ j. row_of c j) receivers)
