-- The images of a candidate's alerts, of which its low is a rank, and its high where it gains no ring.
use Rattle.std.proofs.Common.{◌≡◌, ◌∙◌, ℕ, ◌<◌, ◌≤◌, ◌||◌, Bool, true, false, List, map, filter, refl, ap, sym, subst}
use Rattle.std.proofs.Common.{arith}
use Rattle.std.specs.List.{All, range_with_len}
use Rattle.std.proofs.lemmas.List.Elements.{filter_passes, All-filter, All-map}
use Rattle.std.specs.List.Sorted.{IsPermutation}
use Rattle.std.proofs.lemmas.List.Sorted.{IsPermutation-refl}
use Rattle.cut_lists.proofs.Maps.{map-map, maps_agree}
use Rattle.cut_lists.proofs.Ranges.{All-range_with_len, filter_agree_on, none_passing}
use Rattle.cut_rings.specs.Edges.{set_of}
use Rattle.cut_detector.specs.Rule.{rule_in}
unfoldable use Rattle.cut_detector.specs.Counts.{is_full}
use Rattle.cut_detector.specs.Counts.{is_gained}
use Rattle.cut_arrivals.specs.blocks.Images.{never}
use Rattle.cut_arrivals.specs.ranks.Ranks.{IsRank}
use Rattle.cut_arrivals.specs.proposals.Times.{full_time}
use Rattle.cut_arrivals.specs.proposals.Laws.{ImagesAreLeast, LowIsRankOfPresent, HighIsRankOfFullTimes, UngainedCountByImage}
use Rattle.cut_arrivals.specs.proposals.Reception.{images_at, lows_at, highs_at}
use Rattle.cut_arrivals.specs.declared.candidates.candidate.Candidate.{Candidate}
use Rattle.cut_rings.specs.Edges.{rings_to, edge_to}
use Rattle.cut_arrivals.specs.candidates.KeyPlaces.{key_in, key_of}
use Rattle.cut_arrivals.specs.declared.receivers.trial.Trial.{Trial}
use Rattle.cut_arrivals.specs.receivers.Received.{reception_of}
use Rattle.cut_arrivals.specs.receivers.inside.Times.{IsCandidateOf, image_of_key}
use Rattle.cut_arrivals.proofs.Bounds.{image_within, hears}

-- the values that are gathered in the lane of receiver j
abbrev pub gathered : Trial → Candidate → ℕ → List ℕ
gathered t d j = map (λ key_place. image_of_key (reception_of t j) (key_in t.candidates.now.blocks.items key_place))
    d.heard.items

abbrev heard_rings : Trial → Candidate → List ℕ
heard_rings t d = rings_to t.rule.k (set_of t.edges.now) d.subject

pub gathered_are : ImagesAreLeast → (t : Trial) (d : Candidate) (j : ℕ) → IsCandidateOf t d
    → gathered t d j ≡ map (λ ring. images_at (reception_of t j) never ring d.subject) (heard_rings t d)
gathered_are least t d j is =
    let x = reception_of t j in
    let rings : List ℕ = heard_rings t d in
    sym (map-map (λ key_place. key_in t.candidates.now.blocks.items key_place) (λ key. image_of_key x key)
    d.heard.items)
    ∙ ap (λ (ks : List (ℕ × ℕ)). map (λ key. image_of_key x key) ks) is.candidate.heard.keys
    ∙ map-map (λ e. key_of t.rule.k e) (λ key. image_of_key x key) (map (λ ring. edge_to d.subject ring) rings)
    ∙ map-map (λ ring. edge_to d.subject ring) (λ e. image_of_key x (key_of t.rule.k e)) rings
    ∙ maps_agree (λ ring. image_of_key x (key_of t.rule.k (edge_to d.subject ring)))
    (λ ring. images_at x never ring d.subject) rings
    (λ k e low. sym (least x _ d.subject (filter_passes (λ ring. set_of t.edges.now ring d.subject)
    (range_with_len 0 t.rule.k) k e low)))

pub gathered_within : ImagesAreLeast → (t : Trial) (d : Candidate) (j : ℕ) → IsCandidateOf t d
    → All (λ v. v ≤ never) (gathered t d j)
gathered_within least t d j is =
    let x = reception_of t j in
    let image : ℕ → ℕ = λ ring. images_at x never ring d.subject in
    subst (All (λ v. v ≤ never)) (sym (gathered_are least t d j is))
    (All-map (λ v. v ≤ never) image (heard_rings t d) (λ k e low. image_within x _ d.subject))

or_false : (b : Bool) → b || false ≡ b
or_false true = refl
or_false false = refl

pub low_is : ImagesAreLeast → LowIsRankOfPresent → (t : Trial) (d : Candidate) (j v : ℕ) → IsCandidateOf t d
    → IsRank never t.rule.l (gathered t d j) v → v ≡ lows_at (reception_of t j) never d.subject
low_is least law t d j v is rank =
    law (reception_of t j) never d.subject (gathered t d j) v (hears t j) t.some (omega arith) is.process
    (record {
      rings = heard_rings t d;
      moved = IsPermutation-refl (heard_rings t d);
      values_are = gathered_are least t d j is;
    }) rank

-- where no ring is gained, those that count are the alerted ones, from their images on
pub high_is : ImagesAreLeast → HighIsRankOfFullTimes → UngainedCountByImage → (t : Trial) (d : Candidate) (j v : ℕ)
    → IsCandidateOf t d
    → d.gains ≡ false → IsRank never t.rule.h (gathered t d j) v → v ≡ highs_at (reception_of t j) never d.subject
unfolding is_full
high_is least law ungained t d j v is none rank =
    let x = reception_of t j in
    let s : ℕ = d.subject in
    let k : ℕ = t.rule.k in
    let rule = rule_in t.rule in
    let gained : ℕ → Bool = λ ring. is_gained t.rings.now rule (set_of t.edges.now) ring s in
    let heard : ℕ → Bool = λ ring. set_of t.edges.now ring s in
    let no : (ring : ℕ) → ring < k → gained ring ≡ false =
    λ ring low. none_passing gained 0 k ring (sym is.candidate.gains ∙ none) (omega arith) (omega (arith, low)) in
    let same : filter (λ ring. heard ring || gained ring) (range_with_len 0 k) ≡ filter heard (range_with_len 0 k) =
    filter_agree_on (λ ring. heard ring || gained ring) heard 0 k (record {
      same = λ ring _ low. ap (λ b. heard ring || b) (no ring (omega (arith, low))) ∙ or_false (heard ring);
    }) in
    law x never s (gathered t d j) v (hears t j) t.some (omega arith) is.process
    (record {
      rings = heard_rings t d;
      moved = subst (λ (rings : List ℕ). IsPermutation rings (heard_rings t d)) (sym same) (IsPermutation-refl
          (heard_rings t d));
      values_are = gathered_are least t d j is
          ∙ sym (maps_agree (λ ring. full_time never t.rings.now rule (images_at x never) ring s)
          (λ ring. images_at x never ring s) (heard_rings t d)
          (All-filter heard (λ ring. full_time never t.rings.now rule
          (images_at x never) ring s ≡ images_at x never ring s) (range_with_len 0 k)
          (All-range_with_len _ 0 k (λ ring _ low.
          ungained x never ring s (hears t j) t.some (omega arith) (omega (arith, low)) is.process (no ring (omega
          (arith, low)))))));
    }) rank
