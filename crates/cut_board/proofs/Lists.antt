-- Lists that are read and changed at a place, and lists that have each number equally often.
use Rattle.std.proofs.Common.{◌≡◌, ℕ, zero, suc, ◌+◌, ◌*◌, ◌<◌, ◌≤◌, ◌==◌, Bool, true, false, cond, List, [], ◌∷◌}
use Rattle.std.proofs.Common.{remove, Contains, All, length, get_or, set, flat_map, sum_by, refl, sym, ap, ◌∙◌, arith}
use Rattle.std.proofs.Common.{subst, take, add-mul, eqb-true}
use Rattle.std.specs.List.Sorted.{IsPermutation}
use mathlib.Core.Option.{some, some-injective, some-ne-none}
use lib.ListN.{get_elem?}
use Rattle.std.proofs.lemmas.List.Concat.{get_or-flat_map}
use Rattle.std.proofs.lemmas.List.Folds.{length-flat_map-take}
use Rattle.std.proofs.lemmas.List.Elements.{All-head, All-tail}
use Rattle.std.proofs.lemmas.List.Sorted.{IsPermutation-refl, IsPermutation-remove, IsPermutation-trans}
use Rattle.std.proofs.lemmas.List.Sorted.{IsPermutation-cons, IsPermutation-sym, sum_by-IsPermutation}
use Rattle.std.proofs.lemmas.List.Sums.{sum_by-cons, sum_by-append, sum_by-set}

module _ {X : Type 0} where
  pub at_place : (xs : List X) (i : ℕ) (x d : X) → get_elem? xs i ≡ some x → (i < length xs) × (get_or xs i d ≡ x)
  at_place [] i x d at = absurd (some-ne-none x (sym at))
  at_place (y ∷ xs) zero x d at = (omega arith, some-injective y x at)
  at_place (y ∷ xs) (suc i) x d at = let rest = at_place xs i x d at in (omega (arith, rest.0), rest.1)

  pub sum_by_put : (f : X → ℕ) (xs : List X) (i : ℕ) (x y : X) → get_elem? xs i ≡ some x
      → sum_by f (set xs i y) + f x ≡ sum_by f xs + f y
  sum_by_put f xs i x y at =
      let place = at_place xs i x x at in
      omega (arith, ap f place.1, sum_by-set f xs i y x place.0)

  pub All-at : (P : X → Type 0) (xs : List X) (i : ℕ) (x : X) → get_elem? xs i ≡ some x → All P xs → P x
  All-at P xs i x at all = let place = at_place xs i x x at in rw (sym place.1) (all i x place.0)

  -- what holds of all that many have holds of what one has
  pub All-piece : {Y : Type 0} (P : Y → Type 0) (f : X → List Y) (xs : List X) (i : ℕ) (x : X)
      → get_elem? xs i ≡ some x → All P (flat_map f xs) → All P (f x)
  All-piece P f xs i x at all =
      let place = at_place xs i x x at in
      subst (λ y. All P (f y)) place.1 (λ j d inside.
      subst P (get_or-flat_map f xs i j x d place.0 inside)
      (all (length (flat_map f (take i xs)) + j) d (omega (arith, length-flat_map-take f xs i x place.0))))

  -- each is at most m times another
  pub sum_by_bounded : (f g : X → ℕ) (m : ℕ) (xs : List X) → All (λ x. f x ≤ g x * m) xs
      → sum_by f xs ≤ sum_by g xs * m
  sum_by_bounded f g m [] all = omega arith
  sum_by_bounded f g m (x ∷ xs) all =
      let here : f x ≤ g x * m = All-head (λ (y : X). f y ≤ g y * m) x xs all in
      let rest = sum_by_bounded f g m xs (All-tail (λ (y : X). f y ≤ g y * m) x xs all) in
      let split : sum_by g (x ∷ xs) * m ≡ g x * m + sum_by g xs * m =
      ap (λ n. n * m) (sum_by-cons g x xs) ∙ add-mul (g x) (sum_by g xs) m in
      omega (arith, sum_by-cons f x xs)

  pub sum_by_flat_map : {Y : Type 0} (h : Y → ℕ) (f : X → List Y) (xs : List X)
      → sum_by h (flat_map f xs) ≡ sum_by (λ x. sum_by h (f x)) xs
  sum_by_flat_map h f [] = refl
  sum_by_flat_map h f (x ∷ xs) =
      omega (
        arith,
        sum_by-append h (f x) (flat_map f xs),
        sum_by-cons (λ y. sum_by h (f y)) x xs,
        sum_by_flat_map h f xs,
      )

-- 1 for x, and else 0
abbrev pub is_one : ℕ → ℕ → ℕ
is_one x y = cond (y == x) 1 0

-- how often a number stands in a list
abbrev pub times : ℕ → List ℕ → ℕ
times x ys = sum_by (is_one x) ys

pub times_first : (x : ℕ) (xs : List ℕ) → times x (x ∷ xs) ≡ times x xs + 1
times_first x xs =
    grind (arith, sum_by-cons (is_one x) x xs)

pub found : (x : ℕ) (ys : List ℕ) → 0 < times x ys → Contains ys x
found x [] there = absurd (omega arith)
found x (y ∷ ys) there = by (y == x) refl (found x ys)
  where
    by : (b : Bool) → (y == x) ≡ b → (0 < times x ys → Contains ys x) → Contains (y ∷ ys) x
    by true e later = (0, omega arith, eqb-true y x e)
    by false e later =
        let none : is_one x y ≡ 0 = ap (λ b. cond b 1 0) e in
        let has : Contains ys x = later (omega (arith, sum_by-cons (is_one x) y ys)) in
        (suc has.0, omega arith, has.2)

pub permutation_from_times : (xs ys : List ℕ) → ((x : ℕ) → times x xs ≡ times x ys) → IsPermutation xs ys
permutation_from_times [] [] same = IsPermutation-refl []
permutation_from_times [] (y ∷ ys) same = absurd (omega (arith, same y, times_first y ys))
permutation_from_times (x ∷ xs) ys same =
    let has : Contains ys x = found x ys (omega (arith, same x, times_first x xs)) in
    let rest : List ℕ = remove ys has.0 in
    let apart : IsPermutation ys (x ∷ rest) = IsPermutation-remove ys has.0 x has.1 (sym has.2) in
    let others : IsPermutation xs rest = permutation_from_times xs rest (λ y. omega (
      arith,
      same y,
      sum_by-cons (is_one y) x xs,
      sum_by-cons (is_one y) x rest,
      sum_by-IsPermutation (is_one y) ys (x ∷ rest) apart,
    )) in
    grind (arith, IsPermutation-trans, IsPermutation-cons, IsPermutation-sym)
