-- Candidates by their places.
use Rattle.std.proofs.Common.{◌≡◌, ◌∙◌, ℕ, ◌<◌, ◌≤◌, inl, List, [], ◌∷◌, length, map, filter, nat_lt, slice_index}
use Rattle.std.proofs.Common.{slice_index_or, ap, sym, subst, arith}
use Rattle.std.specs.List.{All, range_with_len}
use Rattle.std.proofs.lemmas.List.{get_or-map, length-map, ext_get_or}
use Rattle.std.proofs.lemmas.List.Elements.{All-filter}
use Rattle.cut_lists.proofs.Ranges.{All-range_with_len, filter_agree_on}
use Rattle.cut_rings.specs.Edges.{set_of}
use Rattle.cut_detector.specs.Rule.{rule_in}
use Rattle.cut_detector.specs.Counts.{is_reported}
use Rattle.cut_arrivals.specs.lanes.Lanes.{lane}
use Rattle.cut_arrivals.specs.blocks.Images.{never}
use Rattle.cut_arrivals.specs.proposals.Laws.{EndsReportedAlike}
use Rattle.cut_arrivals.specs.proposals.Reception.{lows_at, highs_at}
use Rattle.cut_arrivals.specs.declared.candidates.candidate.Candidate.{Candidate}
use Rattle.cut_arrivals.specs.candidates.Candidates.{subjects_of}
use Rattle.cut_arrivals.specs.declared.receivers.trial.Trial.{Trial}
use Rattle.cut_arrivals.specs.declared.receivers.images.Images.{Images}
use Rattle.cut_arrivals.specs.receivers.Received.{reception_of}
use Rattle.cut_arrivals.specs.receivers.inside.Times.{IsCandidateOf, AreReportedAt, AreStableAtTo, reception_in, subjects_in}
use Rattle.cut_arrivals.proofs.Bounds.{hears}
use Rattle.cut_arrivals.proofs.Insertions.{value_lane, length_lane}

pub subject_at : (candidates : List Candidate) (u : ℕ) (d : Candidate) → u < length candidates
    → slice_index (subjects_of candidates) u ≡ (slice_index_or candidates u d).subject
subject_at candidates u d low = get_or-map (λ (x : Candidate). x.subject) candidates u d 0 low

pub count_subjects : (candidates : List Candidate) → length (subjects_of candidates) ≡ length candidates
count_subjects candidates = length-map candidates (λ (d : Candidate). d.subject)

pub subjects_process : (t : Trial) → All (λ s. s < t.rings.now.nodes) (subjects_of t.candidates.now.candidates.items)
subjects_process t =
    subst (All (λ s. s < t.rings.now.nodes)) (sym t.candidates_are.subjects)
    (All-filter (λ s. is_reported (rule_in t.rule) (set_of t.edges.now) s) (λ s. s < t.rings.now.nodes)
    (range_with_len 0 t.rings.now.nodes)
    (All-range_with_len (λ s. s < t.rings.now.nodes) 0 t.rings.now.nodes (λ s _ low. omega (arith, low))))

pub candidate_at : (t : Trial) (u : ℕ) (d : Candidate) → u < length t.candidates.now.candidates.items
    → IsCandidateOf t (slice_index_or t.candidates.now.candidates.items u d)
candidate_at t u d low =
    grind (arith, length-map, subject_at, subjects_process)

-- the low of a candidate by its place
pub low_at : (images : Images) (reported_at : List (List ℕ)) (i place : ℕ) → AreReportedAt images reported_at → i < 4
    → place < length (subjects_in images)
    → slice_index (slice_index_or reported_at place []) i ≡ lows_at (reception_in images i) never (slice_index
    (subjects_in images) place)
low_at images reported_at i place are low inside =
    grind (arith, length-map, value_lane, get_or-map)

pub many_reported_at : (images : Images) (reported_at : List (List ℕ)) → AreReportedAt images reported_at
    → length reported_at ≡ length images.trial.candidates.now.candidates.items
many_reported_at images reported_at are =
    grind (arith, length-map)

-- a candidate that is read from a list of them
pub candidate_read : (t : Trial) (candidates : List Candidate) (u : ℕ) (d : Candidate)
    → candidates ≡ t.candidates.now.candidates.items → u < length candidates
    → d ≡ slice_index_or candidates u d → IsCandidateOf t d
candidate_read t candidates u d are low is =
    grind (arith, candidate_at)

pub many_subjects : (images : Images) → length (subjects_in images)
    ≡ length images.trial.candidates.now.candidates.items
many_subjects images = length-map images.trial.candidates.now.candidates.items (λ (d : Candidate). d.subject)

-- an element of a list that has some
some_element : {X : Type 0} (xs : List X) (u : ℕ) → u < length xs → X
some_element [] u low = absurd (omega (arith, low))
some_element (x ∷ xs) u low = x

-- the highs of all candidates, lane by lane
pub stable_at_are : (images : Images) (n : ℕ) (stable_at : List (List ℕ)) (i : ℕ)
    → length images.trial.candidates.now.candidates.items ≤ n → i < 4 → AreStableAtTo images n stable_at
    → lane i stable_at ≡ map (λ s. highs_at (reception_in images i) never s) (subjects_in images)
stable_at_are images n stable_at i all low are =
    let many = are.many in
    let candidates : List Candidate = images.trial.candidates.now.candidates.items in
    let f : ℕ → ℕ = λ s. highs_at (reception_in images i) never s in
    let long = length_lane i stable_at in
    ext_get_or 0 (lane i stable_at) (map f (subjects_in images))
    (long ∙ many ∙ sym (length-map (subjects_in images) f ∙ many_subjects images))
    (λ u below.
    let inside : u < length stable_at = omega (arith, below, long) in
    let known : u < length candidates = omega (arith, inside, many) in
    let d : Candidate = some_element candidates u known in
    sym (value_lane i u stable_at inside)
    ∙ are.known u d inside (inl (omega (arith, known, all))) i low
    ∙ sym (get_or-map f (subjects_in images) u 0 0 (omega (arith, known, many_subjects images))
    ∙ ap f (subject_at candidates u d known)))

-- as many vectors as there are processes whose times are in a lane
pub lane_long : (i : ℕ) (f : ℕ → ℕ) (subjects : List ℕ) (vs : List (List ℕ)) → lane i vs ≡ map f subjects
    → length vs ≡ length subjects
lane_long i f subjects vs are = sym (length_lane i vs) ∙ ap (λ (xs : List ℕ). length xs) are ∙ length-map subjects f

-- the candidates are the processes that are reported at each receiver in the end
pub subjects_are : EndsReportedAlike → (t : Trial) (j : ℕ)
    → subjects_of t.candidates.now.candidates.items
    ≡ filter (λ s. nat_lt (lows_at (reception_of t j) never s) never) (range_with_len 0 t.rings.now.nodes)
subjects_are alike t j =
    t.candidates_are.subjects
    ∙ sym (filter_agree_on (λ s. nat_lt (lows_at (reception_of t j) never s) never) (λ s. is_reported (rule_in t.rule)
    (set_of t.edges.now) s)
    0 t.rings.now.nodes (record {
      same = λ s _ low. alike (reception_of t j) never (hears t j) t.some (omega arith) s
          (omega (arith, low));
    }))
