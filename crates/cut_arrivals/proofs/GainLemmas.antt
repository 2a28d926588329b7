-- What is gained, by a search among the reported processes.
use Rattle.std.proofs.Common.{◌≡◌, ℕ, ◌<◌, ◌≤◌, Bool, true, false, ◌&&◌, List, Some, None, filter, length}
use Rattle.std.proofs.Common.{get_or, ap, sym, subst, ◌∙◌, arith}
use Rattle.std.specs.Prelude.{slice_index}
use Rattle.std.specs.List.{range_with_len, Contains}
use Rattle.std.proofs.lemmas.List.{get_or_default}
use Rattle.std.proofs.lemmas.Bool.{false_from_ne_true}
use Rattle.std.proofs.lemmas.List.Kept.{AllPairs-from_increasing, IsStrictlyIncreasing-filter}
use Rattle.cut_lists.proofs.Ranges.{Contains-filter_of, Contains_filter, range-rises, few_filtered}
use Rattle.cut_rings.specs.Edges.{EdgeSet}
use Rattle.cut_rings.specs.Layout.{Layout, observer_of}
use Rattle.cut_detector.specs.Rule.{Rule}
use Rattle.cut_detector.specs.Counts.{is_reported, is_gained}
use Rattle.cut_arrivals.specs.candidates.inside.Reported.{IsGain}

no_gain : (r : Layout) (rule : Rule) (E : EdgeSet) (subjects : List ℕ) (ring s : ℕ)
    → is_gained r rule E ring s ≡ false → IsGain r rule E subjects ring s None
no_gain r rule E subjects ring s none = grind arith

both : (a b c : Bool) → a ≡ true → b ≡ true → a && b && c ≡ c
both a b c p q = grind arith

-- with them, by whether the observer is reported too
gained_by : (r : Layout) (rule : Rule) (E : EdgeSet) (ring s : ℕ) → rule.implicit ≡ true → is_reported rule E s ≡ true
    → is_gained r rule E ring s ≡ is_reported rule E (observer_of r ring s)
gained_by r rule E ring s on reported =
    both rule.implicit (is_reported rule E s) (is_reported rule E (observer_of r ring s)) on reported

-- the observer was found at a place, or not at all
pub gains_found : (r : Layout) (rule : Rule) (E : EdgeSet) (subjects : List ℕ) (ring s observer place : ℕ)
    → subjects ≡ filter (λ s. is_reported rule E s) (range_with_len 0 r.nodes)
    → rule.implicit ≡ true → is_reported rule E s ≡ true → observer ≡ observer_of r ring s
    → place < length subjects → slice_index subjects place ≡ observer
    → IsGain r rule E subjects ring s (Some place)
gains_found r rule E subjects ring s observer place all on reported is low at =
    let held : Contains (filter (λ s. is_reported rule E s) (range_with_len 0 r.nodes)) observer =
    subst (λ xs. Contains xs observer) all (place, low, get_at subjects place observer low at) in
    let found : is_reported rule E (observer_of r ring s) ≡ true =
    ap (λ o. is_reported rule E o) (sym is)
    ∙ (Contains-filter_of (λ s. is_reported rule E s) 0 r.nodes observer held).passes in
    grind arith
  where
    get_at : (xs : List ℕ) (i x : ℕ) → i < length xs → get_or xs i 0 ≡ x → get_or xs i x ≡ x
    get_at xs i x low at = get_or_default xs i x 0 low ∙ at

pub gains_missed : (r : Layout) (rule : Rule) (E : EdgeSet) (subjects : List ℕ) (ring s observer : ℕ)
    → subjects ≡ filter (λ s. is_reported rule E s) (range_with_len 0 r.nodes)
    → rule.implicit ≡ true → is_reported rule E s ≡ true → observer ≡ observer_of r ring s → observer < r.nodes
    → ((i : ℕ) → i < length subjects → slice_index subjects i ≡ observer → ⊥)
    → IsGain r rule E subjects ring s None
gains_missed r rule E subjects ring s observer all on reported is process missed =
    no_gain r rule E subjects ring s
    (gained_by r rule E ring s on reported ∙ ap (λ o. is_reported rule E o) (sym is)
    ∙ false_from_ne_true (is_reported rule E observer) (λ yes.
    let held : Contains subjects observer = subst (λ xs. Contains xs observer) (sym all)
    (Contains_filter (λ s. is_reported rule E s) 0 r.nodes observer
    (record { from = omega arith; below = omega arith; passes = yes })) in
    missed held.0 held.1 (get_or_default subjects held.0 0 observer held.1 ∙ held.2)))

-- the reported processes ascend
pub reported_rise : (rule : Rule) (E : EdgeSet) (n : ℕ) (subjects : List ℕ)
    → subjects ≡ filter (λ s. is_reported rule E s) (range_with_len 0 n)
    → (i j : ℕ) → i ≤ j → j < length subjects → get_or subjects i 0 ≤ get_or subjects j 0
reported_rise rule E n subjects all i j order low =
    grind (arith, IsStrictlyIncreasing-filter, range-rises, AllPairs-from_increasing)

pub few_reported : (rule : Rule) (E : EdgeSet) (n : ℕ) (subjects : List ℕ)
    → subjects ≡ filter (λ s. is_reported rule E s) (range_with_len 0 n)
    → length subjects ≤ n
few_reported rule E n subjects all = omega (arith, ap (λ xs. length xs) all, few_filtered (λ s. is_reported rule E s) n)
