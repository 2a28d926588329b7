-- What is known of an order of the first n processes, and when a table of places is its inverse.
use Rattle.std.proofs.Common.{◌≡◌, ℕ, suc, ◌∷◌, ◌+◌, ◌<◌, ◌≢◌, ◌==◌, ◌&&◌, Bool, refl, true, false, List, [], length}
use Rattle.std.proofs.Common.{get_or, map, set, get_or-set_other, get_or-set_same, Vec, Global, below_more, ap}
use Rattle.std.proofs.Common.{sym, ◌∙◌, arith}
use Rattle.std.specs.Prelude.{◌↔◌}
use Rattle.std.specs.List.{Any, list_all, list_any, All, Contains, count_by, range_with_len}
use Rattle.std.specs.declared.cmp.Ordering.{Ordering}
use Rattle.std.specs.Ordering.{is_lt}
use Rattle.std.proofs.lemmas.Bool.{both_ways, eq-eqb, eqb-true, and_parts, and_from}
use Rattle.std.proofs.lemmas.List.Sums.{AllPass-from_list_all, list_all-from_AllPass}
use Rattle.std.proofs.lemmas.List.Folds.{Any-from_list_any, list_any_at}
use Rattle.std.proofs.lemmas.List.{get_or_default}
use Rattle.std.proofs.lemmas.List.FromFn.{length-range_with_len, get_or-range_with_len, fill_by_all}
use Rattle.cut_lists.specs.Ranked.{IsOrder, IsRanked}
use Rattle.cut_lists.proofs.Orders.{length-order, order_is_below, order_differs, order_has, Differ, moved}
use Rattle.cut_rings.specs.inside.Listed.{is_order}
use Rattle.cut_rings.specs.inside.Inverse.{IsInverse}

-- where a process stands, by a table in which each place is right
place_of : (n : ℕ) (order positions : List ℕ) → IsOrder n order
    → ((i : ℕ) → i < n → get_or positions (get_or order i 0) 0 ≡ i) → (p : ℕ) → p < n → (get_or positions p 0 < n)
    × (get_or order (get_or positions p 0) 0 ≡ p)
place_of n order positions is placed p below =
    grind (arith, length-order n order is, order_has n order is p below, get_or_default order)

pub is_inverse : (n : ℕ) (order positions : List ℕ) → IsOrder n order → length positions ≡ n
    → ((i : ℕ) → i < n → get_or positions (get_or order i 0) 0 ≡ i) → IsInverse n order positions
is_inverse n order positions is long placed =
    grind (arith, length-order n order is, order_is_below n order is, place_of n order positions is placed)

-- one more place is written
pub placed_more : (n : ℕ) (order positions : List ℕ) → IsOrder n order → length positions ≡ n → (place process : ℕ)
    → place < n → process ≡ get_or order place 0 → ((i : ℕ) → i < place → get_or positions (get_or order i 0) 0 ≡ i)
    → (i : ℕ) → i < place + 1 → get_or (set positions process place) (get_or order i 0) 0 ≡ i
placed_more n order positions is long place process within at before =
    let many : length order ≡ n = length-order n order is in
    below_more _ _
    (λ i early.
    let apart : get_or order i 0 ≢ get_or order place 0 = order_differs n order is i place early (omega arith) in
    let other : get_or order i 0 ≢ process = omega arith in
    get_or-set_other positions process (get_or order i 0) place 0 other ∙ before i early)
    (let below : get_or order place 0 < n = order_is_below n order is place 0 (omega arith) in
    ap (λ q. get_or (set positions process place) q 0) (sym at)
    ∙ get_or-set_same positions process place 0 (omega arith))

-- where each process stands at the number of lesser ones, these numbers are the places
pub ranked_positions : (compare : ℕ → ℕ → Ordering) (n : ℕ) (order positions : List ℕ) → IsRanked compare n order
    → IsInverse n order positions → positions ≡ map (λ p. count_by (λ q. is_lt (compare q p)) (range_with_len 0 n))
    (range_with_len 0 n)
ranked_positions compare n order positions ranked inverse =
    let rank : ℕ → ℕ = λ p. count_by (λ q. is_lt (compare q p)) (range_with_len 0 n) in
    let many : length order ≡ n = inverse.order_length in
    fill_by_all rank positions n 0 inverse.positions_length (λ p below.
    let place : get_or positions p 0 < n = inverse.position p below in
    sym (ap rank (sym (inverse.found p below)) ∙ ranked.ranks (get_or positions p 0) (omega arith)))

range_differs : (n : ℕ) → Differ (range_with_len 0 n)
range_differs n i j before within same =
    grind (arith, length-range_with_len, get_or-range_with_len)

-- a list that is no longer than n, and lacks none of the first n processes, is an order of them
pub order_tested : (n : ℕ) (list : List ℕ) → (is_order n list ≡ true) ↔ IsOrder n list
order_tested n list = (to, from)
  where
    has : ℕ → Bool
    has p = list_any (λ q. q == p) list

    to : is_order n list ≡ true → IsOrder n list
    to passes =
        let parts = and_parts (length list == n) (list_all has (range_with_len 0 n)) passes in
        let long : length (range_with_len 0 n) ≡ n = length-range_with_len 0 n in
        let same : length list ≡ n = eqb-true (length list) n parts.0 in
        moved (range_with_len 0 n) list (range_differs n) (omega arith) (λ k d within.
        let p : ℕ = get_or (range_with_len 0 n) k d in
        let found = Any-from_list_any (λ q. q == p) list
        (AllPass-from_list_all has (range_with_len 0 n) parts.1 k d within) in
        let is_p : found.1 ≡ p = eqb-true found.1 p found.4 in
        (found.0, found.2, get_or_default list found.0 p found.1 found.2 ∙ found.3 ∙ is_p))

    from : IsOrder n list → is_order n list ≡ true
    from is =
        let long : length (range_with_len 0 n) ≡ n = length-range_with_len 0 n in
        and_from (length list == n) (list_all has (range_with_len 0 n))
        (eq-eqb (length list) n (length-order n list is))
        (list_all-from_AllPass has (range_with_len 0 n) (λ k d within.
        let p : ℕ = get_or (range_with_len 0 n) k d in
        let at : p ≡ 0 + k = get_or-range_with_len 0 n k d (omega arith) in
        let found : Contains list p = order_has n list is p (omega arith) in
        list_any_at (λ q. q == p) list found.0 p found.1 (eq-eqb (get_or list found.0 p) p found.2)))

-- where not all pass, some fails
some_fails : {X : Type 0} (p : X → Bool) (xs : List X) → list_all p xs ≡ false → Any (λ x. p x ≡ false) xs
some_fails p [] none = cc
some_fails {X} p (x ∷ xs) none = by (some_fails p xs) (p x) refl
  where
    by : (list_all p xs ≡ false → Any (λ x. p x ≡ false) xs) → (b : Bool) → p x ≡ b → Any (λ x. p x ≡ false) (x ∷ xs)
    by rest false fails = (0, x, omega arith, refl, fails)
    by rest true passes =
        let later = rest (sym (ap (λ b. b && list_all p xs) passes) ∙ none) in
        (suc later.0, later.1, omega (arith, later.2), later.3, later.4)

-- whether lists are orders, by the test of each
pub all_orders : (n : ℕ) (lists : List (Vec ℕ Global)) → list_all (λ list. is_order n list.items) lists ≡ true
    → All (λ list. IsOrder n list.items) lists
all_orders n lists pass =
    grind (arith, order_tested, AllPass-from_list_all)

pub some_not_order : (n : ℕ) (lists : List (Vec ℕ Global)) → list_all (λ list. is_order n list.items) lists ≡ false
    → Any (λ list. ¬ IsOrder n list.items) lists
some_not_order n lists fail =
    let bad = some_fails (λ list. is_order n list.items) lists fail in
    (bad.0, bad.1, bad.2, bad.3, λ is. both_ways (is_order n bad.1.items) bad.4 ((order_tested n bad.1.items).1 is))
