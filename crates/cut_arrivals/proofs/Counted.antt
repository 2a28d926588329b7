-- The times from which on the rings of a candidate count, of which its high is a rank.
use Rattle.std.proofs.Common.{◌≡◌, ◌∙◌, inl, inr, ℕ, ◌<◌, ◌≤◌, Bool, List, map, Option, Some, None, if◌then◌else◌, ap}
use Rattle.std.proofs.Common.{sym, subst, arith}
use Rattle.std.specs.List.{All, range_with_len}
use Rattle.std.proofs.lemmas.Bool.{cases_Bool}
use Rattle.std.proofs.lemmas.List.Elements.{All-filter, All-map}
use Rattle.std.proofs.lemmas.List.Sorted.{IsPermutation-refl}
use Rattle.cut_lists.proofs.Maps.{map-map, maps_agree}
use Rattle.cut_lists.proofs.Ranges.{All-range_with_len}
use Rattle.cut_rings.specs.Edges.{set_of}
use Rattle.cut_rings.specs.Layout.{observer_of}
use Rattle.cut_detector.specs.Rule.{rule_in}
use Rattle.cut_detector.specs.Counts.{is_full, is_gained}
use Rattle.cut_arrivals.specs.blocks.Images.{never}
use Rattle.cut_arrivals.specs.ranks.Ranks.{IsRank}
use Rattle.cut_arrivals.specs.proposals.Times.{full_time}
use Rattle.cut_arrivals.specs.proposals.Laws.{ImagesAreLeast, OthersNeverCome, GainedCountByLows, HighIsRankOfFullTimes}
use Rattle.cut_arrivals.specs.proposals.Laws.{UngainedCountByImage}
use Rattle.cut_arrivals.specs.proposals.Reception.{images_at, highs_at}
use Rattle.cut_arrivals.specs.declared.candidates.candidate.Candidate.{Candidate}
use Rattle.cut_arrivals.specs.candidates.Candidates.{cause_in, cause_of, subjects_of}
use Rattle.cut_rings.specs.Edges.{rings_to, edge_to}
use Rattle.cut_arrivals.specs.candidates.KeyPlaces.{key_of}
use Rattle.cut_arrivals.specs.declared.receivers.trial.Trial.{Trial}
use Rattle.cut_arrivals.specs.receivers.Received.{reception_of}
use Rattle.cut_arrivals.specs.receivers.inside.Times.{IsCandidateOf, image_if, time_if, time_of_cause}
use Rattle.cut_arrivals.proofs.Bounds.{full_within, hears}

-- what is known of images and full times
pub record AreKnown : Type 0 where
  pub least : ImagesAreLeast
  pub others : OthersNeverCome
  pub ungained : UngainedCountByImage
  pub gained : GainedCountByLows
  pub high : HighIsRankOfFullTimes

-- the values that are gathered in the lane of receiver j
abbrev pub counted : Trial → Candidate → ℕ → List ℕ
counted t d j =
    map (λ c. time_of_cause (reception_of t j) d.subject (cause_in t.candidates.now.blocks.items
    (subjects_of t.candidates.now.candidates.items) c))
    d.causes.items

abbrev full_rings : Trial → Candidate → List ℕ
full_rings t d = rings_to t.rule.k (is_full t.rings.now (rule_in t.rule) (set_of t.edges.now)) d.subject

-- a ring's image by its key, where it has one
image_is : AreKnown → (t : Trial) (j ring s : ℕ)
    → image_if (reception_of t j) (if set_of t.edges.now ring s then Some (key_of t.rule.k (edge_to s ring)) else None)
    ≡ images_at (reception_of t j) never ring s
image_is known t j ring s = elim (cases_Bool (set_of t.edges.now ring s)) [
  | inl is ↦ ap (λ b. image_if (reception_of t j) (if b then Some (key_of t.rule.k (edge_to s ring)) else None)) is
      ∙ sym (known.least (reception_of t j) ring s is)
  | inr not ↦ ap (λ b. image_if (reception_of t j) (if b then Some (key_of t.rule.k (edge_to s ring)) else None)) not
      ∙ sym (known.others (reception_of t j) never ring s (hears t j) t.some (omega arith) not)
]

time_is : AreKnown → (t : Trial) (j ring s : ℕ) → ring < t.rule.k → s < t.rings.now.nodes
    → time_of_cause (reception_of t j) s (cause_of t.rings.now (rule_in t.rule) (set_of t.edges.now) s ring)
    ≡ full_time never t.rings.now (rule_in t.rule) (images_at (reception_of t j) never) ring s
time_is known t j ring s in_rule process =
    let x = reception_of t j in
    let image : ℕ = images_at x never ring s in
    let o : ℕ = observer_of t.rings.now ring s in
    let gained : Bool = is_gained t.rings.now (rule_in t.rule) (set_of t.edges.now) ring s in
    ap (λ (m : ℕ). time_if x s m (if gained then Some o else None)) (image_is known t j ring s)
    ∙ elim (cases_Bool gained) [
      | inl is ↦ ap (λ b. time_if x s image (if b then Some o else None)) is ∙ sym (known.gained x never ring s is)
      | inr not ↦ ap (λ b. time_if x s image (if b then Some o else None)) not
          ∙ sym (known.ungained x never ring s (hears t j) t.some (omega arith) in_rule process not)
    ]

pub counted_are : AreKnown → (t : Trial) (d : Candidate) (j : ℕ) → IsCandidateOf t d
    → counted t d j
    ≡ map (λ ring. full_time never t.rings.now (rule_in t.rule) (images_at (reception_of t j) never) ring d.subject)
    (full_rings t d)
counted_are known t d j is =
    let x = reception_of t j in
    let s : ℕ = d.subject in
    let k : ℕ = t.rule.k in
    let rule = rule_in t.rule in
    let rings : List ℕ = full_rings t d in
    let time : Option (ℕ × ℕ) × Option ℕ → ℕ = λ cause. time_of_cause x s cause in
    let full : ℕ → ℕ = λ ring. full_time never t.rings.now rule (images_at x never) ring s in
    let of : ℕ → ℕ = λ ring. time (cause_of t.rings.now rule (set_of t.edges.now) s ring) in
    sym (map-map (λ c. cause_in t.candidates.now.blocks.items (subjects_of t.candidates.now.candidates.items) c) time
    d.causes.items)
    ∙ ap (λ (cs : List (Option (ℕ × ℕ) × Option ℕ)). map time cs) is.candidate.causes
    ∙ map-map (λ ring. cause_of t.rings.now rule (set_of t.edges.now) s ring) time rings
    ∙ maps_agree of full rings
    (All-filter (λ ring. is_full t.rings.now rule (set_of t.edges.now) ring s) (λ ring. of ring ≡ full ring)
    (range_with_len 0 k)
    (All-range_with_len (λ ring. of ring ≡ full ring) 0 k (λ ring _ low. time_is known t j ring s (omega
    (arith, low)) is.process)))

pub counted_within : AreKnown → (t : Trial) (d : Candidate) (j : ℕ) → IsCandidateOf t d
    → All (λ v. v ≤ never) (counted t d j)
counted_within known t d j is =
    let x = reception_of t j in
    let full : ℕ → ℕ = λ ring. full_time never t.rings.now (rule_in t.rule) (images_at x never) ring d.subject in
    subst (All (λ v. v ≤ never)) (sym (counted_are known t d j is))
    (All-map (λ v. v ≤ never) full (full_rings t d) (λ k e low. full_within x _ d.subject))

pub counted_high : AreKnown → (t : Trial) (d : Candidate) (j v : ℕ) → IsCandidateOf t d
    → IsRank never t.rule.h (counted t d j) v
    → v ≡ highs_at (reception_of t j) never d.subject
counted_high known t d j v is rank =
    known.high (reception_of t j) never d.subject (counted t d j) v (hears t j) t.some (omega arith) is.process
    (record {
      rings = full_rings t d;
      moved = IsPermutation-refl (full_rings t d);
      values_are = counted_are known t d j is;
    }) rank
