-- What the members lack of some targets, and what they have besides.
use Rattle.std.proofs.Common.{◌≡◌, inl, inr, ℕ, ◌^◌, ◌<◌, ◌≤◌, ◌==◌, ◌&&◌, ◌||◌, Bool, true, false, not, nat_le, nat_lt}
use Rattle.std.proofs.Common.{List, filter, refl, ap, sym, ◌∙◌, arith}
use Rattle.std.specs.List.{Contains, list_any, range_with_len}
use Rattle.std.proofs.lemmas.Bool.{and_from, and_parts, both_ways, cases_Bool, cases_lt, eq-eqb, leb-true}
use Rattle.std.proofs.lemmas.Bool.{lt-ltb, or_cases, or_left, or_right}
use Rattle.std.proofs.lemmas.List.Elements.{All-contains}
use Rattle.std.proofs.lemmas.List.Folds.{Any-from_list_any, list_any_at}
use Rattle.cut_lists.proofs.Ranges.{Contains-filter_of, Contains_filter, filter_agree_on, list_any_agree}
use Rattle.cut_lists.proofs.Ranges.{list_any_passing, none_passing, passing}
use Rattle.cut_arrivals.specs.blocks.Images.{ImagesAreBelowNever}
use Rattle.cut_arrivals.specs.proposals.Times.{members_by}
use Rattle.cut_arrivals.specs.proposals.Candidates.{AreCandidates}
use Rattle.cut_arrivals.specs.proposals.Reception.{Reception, IsReception, lows_at, highs_at}
use Rattle.cut_arrivals.proofs.Tests.{both_imply, lt_is_not_le}
use Rattle.cut_arrivals.proofs.ProposalsHeard.{high_places, highs_same, low_places, lows_same, places_are_times, to_image}
use Rattle.cut_arrivals.proofs.ProposalsHeard.{to_image_rises}
use Rattle.cut_detector.proofs.Places.{not_true}

-- ---- elements of lists

pub any_contained : {X : Type 0} (p : X → Bool) (xs : List X) (x : X) → Contains xs x → p x ≡ true → list_any p xs
    ≡ true
any_contained p xs x at is = list_any_at p xs at.0 x at.1 (ap p at.2 ∙ is)

-- an element that passes
record Passes {X : Type 0} (p : X → Bool) (xs : List X) (x : X) : Type 0 where
  contained : Contains xs x
  passes : p x ≡ true

some_passes : {X : Type 0} (p : X → Bool) (xs : List X) → list_any p xs ≡ true → (x : X) × Passes p xs x
some_passes p xs is =
    let at = Any-from_list_any p xs is in
    (at.1, record { contained = (at.0, at.2, at.3); passes = at.4 })

has : (xs : List ℕ) (p : ℕ) → Contains xs p → list_any (λ m. m == p) xs ≡ true
has xs p at = any_contained (λ m. m == p) xs p at (eq-eqb p p refl)

contains : (xs : List ℕ) (p : ℕ) → list_any (λ m. m == p) xs ≡ true → Contains xs p
contains xs p is =
    grind (arith, some_passes)

-- ---- members

member : (n time : ℕ) (high : ℕ → ℕ) (p : ℕ) → p < n → list_any (λ m. m == p) (members_by n high time)
    ≡ nat_le (high p) time
member n time high p process =
    both_imply _ _
    (λ e. (Contains-filter_of (λ s. nat_le (high s) time) 0 n p (contains (members_by n high time) p e)).passes)
    (λ e. has (members_by n high time) p (Contains_filter (λ s. nat_le (high s) time) 0 n p
    (record { from = omega arith; below = omega (arith, process); passes = e })))

module _ (n last time : ℕ) (low high : ℕ → ℕ) (candidates reported_at stable_at : List ℕ) (is_target : ℕ → Bool)
    (are : AreCandidates n last low high candidates reported_at stable_at) (ordered : (s : ℕ) → s < n → low s ≤ high s)
    (ends : time < last)
  where
    -- a target that isn't among the members, one that is no candidate, and a candidate that ends later
    abbrev is_missed : ℕ → Bool
    is_missed p = is_target p && not (list_any (λ m. m == p) (members_by n high time))

    abbrev is_outside : ℕ → Bool
    is_outside p = is_target p && not (list_any (λ m. m == p) candidates)

    abbrev is_late : ℕ → Bool
    is_late p = is_target p && nat_lt time (high p)

    missed_is_late : (p : ℕ) → p < n → is_missed p ≡ is_late p
    missed_is_late p process = ap (λ b. is_target p && b)
        (ap not (member n time high p process) ∙ sym (lt_is_not_le time (high p)))

    outside_is_late : (p : ℕ) → p < n → is_outside p ≡ true → is_late p ≡ true
    outside_is_late p process outside =
        let parts = and_parts (is_target p) (not (list_any (λ m. m == p) candidates)) outside in
        elim (cases_lt (low p) last) [
          | inl early ↦ absurd (both_ways _ (not_true _ parts.1) (has candidates p (are.each p process early)))
          | inr never ↦ (let up : low p ≤ high p = ordered p process in
              and_from _ _ parts.0 (lt-ltb time (high p) (omega (arith, never, up, ends))))
        ]

    late_shown : (p : ℕ) → p < n → is_late p ≡ true → list_any is_outside (range_with_len 0 n)
        || list_any is_late candidates
        ≡ true
    late_shown p process late = elim (cases_Bool (list_any (λ m. m == p) candidates)) [
      | inl inside ↦ or_right (list_any is_outside (range_with_len 0 n)) _
          (any_contained is_late candidates p (contains candidates p inside) late)
      | inr outside ↦ or_left (list_any is_outside (range_with_len 0 n)) _
          (list_any_passing is_outside 0 n p (omega arith) (omega (arith, process))
          (and_from (is_target p) (not (list_any (λ m. m == p) candidates)) (and_parts (is_target p) _ late).0
          (ap not outside)))
    ]

    shown_late : list_any is_outside (range_with_len 0 n) || list_any is_late candidates ≡ true
        → list_any is_late (range_with_len 0 n) ≡ true
    shown_late reported = elim (or_cases (list_any is_outside (range_with_len 0 n)) _ reported) [
      | inl outside ↦ (let at = passing is_outside 0 n outside in
          let process : at.0 < n = (let w = at.1.below in omega arith) in
          list_any_passing is_late 0 n at.0 (omega arith) (omega (arith, process))
          (outside_is_late at.0 process at.1.passes))
      | inr late ↦ (let at = some_passes is_late candidates late in
          let process : at.0 < n = All-contains (λ s. s < n) candidates at.0 are.processes at.1.contained in
          list_any_passing is_late 0 n at.0 (omega arith) (omega (arith, process)) at.1.passes)
    ]

    pub lacking : list_any is_missed (range_with_len 0 n) ≡ list_any is_outside (range_with_len 0 n)
        || list_any is_late candidates
    lacking =
        list_any_agree is_missed is_late 0 n (record { same = λ p _ below. missed_is_late p (omega (arith, below)) })
        ∙ both_imply _ _
        (λ late. let at = passing is_late 0 n late in
        let process : at.0 < n = (let w = at.1.below in omega arith) in
        late_shown at.0 process at.1.passes)
        shown_late

    -- ---- members that are no targets

    abbrev has_ended : ℕ → Bool
    has_ended p = not (is_target p) && nat_le (high p) time

    pub other : list_any (λ p. not (is_target p)) (members_by n high time) ≡ list_any has_ended candidates
    other = both_imply _ _
        (λ e. let at = some_passes (λ p. not (is_target p)) (members_by n high time) e in
        let found = Contains-filter_of (λ s. nat_le (high s) time) 0 n at.0 at.1.contained in
        let process : at.0 < n = (let w = found.below in omega arith) in
        let up : low at.0 ≤ high at.0 = ordered at.0 process in
        let ended : high at.0 ≤ time = leb-true _ _ found.passes in
        any_contained has_ended candidates at.0 (are.each at.0 process (omega (arith, up, ended, ends)))
        (and_from (not (is_target at.0)) _ at.1.passes found.passes))
        (λ e. let at = some_passes has_ended candidates e in
        let process : at.0 < n = All-contains (λ s. s < n) candidates at.0 are.processes at.1.contained in
        let parts = and_parts (not (is_target at.0)) (nat_le (high at.0) time) at.1.passes in
        any_contained (λ p. not (is_target p)) (members_by n high time) at.0
        (Contains_filter (λ s. nat_le (high s) time) 0 n at.0
        (record { from = omega arith; below = omega (arith, process); passes = parts.1 }))
        parts.0)

images_ordered : ImagesAreBelowNever → (x : Reception) (last : ℕ) → IsReception x → 2 ^ 30 ≤ last → (s : ℕ) → s
    < x.layout.nodes → lows_at x last s ≤ highs_at x last s
images_ordered below x last is wide s process =
    let up : to_image x last (low_places x s) ≤ to_image x last (high_places x s) =
    (to_image_rises x last below wide).rises (low_places x s) (high_places x s)
    ((places_are_times x is).ordered s process) in
    let low : lows_at x last s ≡ to_image x last (low_places x s) = ap (λ (f : ℕ → ℕ). f s)
    (lows_same x last below is wide) in
    let high : highs_at x last s ≡ to_image x last (high_places x s) = ap (λ (f : ℕ → ℕ). f s)
    (highs_same x last below is wide) in
    omega (arith, up, low, high)

pub candidates_show_lacking : ImagesAreBelowNever → (x : Reception) (last time : ℕ)
    (candidates reported_at stable_at : List ℕ)
    (is_target : ℕ → Bool) → IsReception x → 2 ^ 30 ≤ last
    → AreCandidates x.layout.nodes last (lows_at x last) (highs_at x last) candidates reported_at stable_at
    → time < last
    → list_any (λ p. is_target p && not (list_any (λ m. m == p) (members_by x.layout.nodes (highs_at x last) time)))
    (range_with_len 0 x.layout.nodes)
    ≡ list_any (λ p. is_target p && not (list_any (λ m. m == p) candidates)) (range_with_len 0 x.layout.nodes)
    || list_any (λ p. is_target p && nat_lt time (highs_at x last p)) candidates
candidates_show_lacking below x last time candidates reported_at stable_at is_target is wide are ends =
    lacking x.layout.nodes last time (lows_at x last) (highs_at x last) candidates reported_at stable_at is_target are
    (images_ordered below x last is wide) ends

pub candidates_show_other : ImagesAreBelowNever → (x : Reception) (last time : ℕ)
    (candidates reported_at stable_at : List ℕ)
    (is_target : ℕ → Bool) → IsReception x → 2 ^ 30 ≤ last
    → AreCandidates x.layout.nodes last (lows_at x last) (highs_at x last) candidates reported_at stable_at
    → time < last
    → list_any (λ p. not (is_target p)) (members_by x.layout.nodes (highs_at x last) time)
    ≡ list_any (λ p. not (is_target p) && nat_le (highs_at x last p) time) candidates
candidates_show_other below x last time candidates reported_at stable_at is_target is wide are ends =
    other x.layout.nodes last time (lows_at x last) (highs_at x last) candidates reported_at stable_at is_target are
    (images_ordered below x last is wide) ends

-- ---- members that are just the targets

not_missed : (target come : Bool) → target && not come ≡ false → target ≡ true → come ≡ true
not_missed target come none is = grind arith

pub members_are_targets : (n time : ℕ) (high : ℕ → ℕ) (is_target : ℕ → Bool)
    → list_any (λ p. is_target p && not (list_any (λ m. m == p) (members_by n high time))) (range_with_len 0 n) ≡ false
    → list_any (λ p. not (is_target p)) (members_by n high time) ≡ false
    → members_by n high time ≡ filter is_target (range_with_len 0 n)
members_are_targets n time high is_target none others =
    filter_agree_on (λ s. nat_le (high s) time) is_target 0 n (record {
      same = λ p _ below.
          let process : p < n = omega (arith, below) in
          let in_members = member n time high p process in
          let kept = none_passing (λ p. is_target p && not (list_any (λ m. m == p) (members_by n high time))) 0 n p none
          (omega arith) below in
          both_imply _ _
          (λ e. elim (cases_Bool (is_target p)) [
            | inl is ↦ is
            | inr is ↦ absurd (both_ways _ others (any_contained (λ p. not (is_target p)) (members_by n high time) p
                (contains (members_by n high time) p (in_members ∙ e)) (ap not is)))
          ])
          (λ is. sym in_members ∙ not_missed (is_target p) _ kept is);
    })
