-- Orders of the first n numbers: lists that hold each once.
use Rattle.std.proofs.Common.{◌≡◌, ℕ, suc, ◌∷◌, ◌<◌, ◌≢◌, true, false, List, [], length}
use Rattle.std.proofs.Common.{get_or, zero-add, sym, ◌∙◌, arith}
use Rattle.std.specs.Prelude.{nat_eq}
use Rattle.std.specs.Cmp.{nat_eq_equiv}
use Rattle.std.specs.List.{All, Contains, IsDistinct, remove, range_with_len}
use Rattle.std.specs.List.Sorted.{IsPermutation}
use Rattle.std.proofs.lemmas.Bool.{eq-eqb}
use Rattle.std.proofs.lemmas.List.{get_or_default}
use Rattle.std.proofs.lemmas.List.Elements.{All-head, All-tail}
use Rattle.std.proofs.lemmas.List.FromFn.{length-range_with_len, get_or-range_with_len}
use Rattle.std.proofs.lemmas.List.Sorted.{IsPermutation-refl, IsPermutation-remove, IsPermutation-trans}
use Rattle.std.proofs.lemmas.List.Sorted.{IsPermutation-cons, IsPermutation-sym, length_permutation, All-permutation}
use Rattle.std.proofs.lemmas.List.Sorted.{Contains-permutation}
use Rattle.std.proofs.lemmas.Map.Keys.{IsDistinct-from_apart, apart_from_distinct, IsDistinct-IsPermutation}
use Rattle.cut_lists.specs.Ranked.{IsOrder}
use Rattle.cut_lists.proofs.Ranges.{All-range_with_len}

pub length-order : (n : ℕ) (order : List ℕ) → IsOrder n order → length order ≡ n
length-order n order is = length_permutation (range_with_len 0 n) order is ∙ length-range_with_len 0 n

pub range_is_below : (n : ℕ) → All (λ p. p < n) (range_with_len 0 n)
range_is_below n = All-range_with_len (λ p. p < n) 0 n (λ i _ below. omega arith)

pub order_is_below : (n : ℕ) (order : List ℕ) → IsOrder n order → (i d : ℕ) → i < length order → get_or order i d < n
order_is_below n order is i d within = All-permutation (λ p. p < n) (range_with_len 0 n) order is (range_is_below n) i d
    within

pub range_is_distinct : (n : ℕ) → IsDistinct nat_eq (range_with_len 0 n)
range_is_distinct n = grind (arith, IsDistinct-from_apart, length-range_with_len, get_or-range_with_len)

pub order_differs : (n : ℕ) (order : List ℕ) → IsOrder n order → (i j : ℕ) → i < j → j < length order
    → get_or order i 0 ≢ get_or order j 0
order_differs n order is i j before within e =
    let distinct : IsDistinct nat_eq order = IsDistinct-IsPermutation nat_eq nat_eq_equiv.symm (range_with_len 0 n)
    order is (range_is_distinct n) in
    let no : nat_eq (get_or order i 0) (get_or order j 0)
    ≡ false = apart_from_distinct nat_eq order i j 0 distinct before within in
    let yes : nat_eq (get_or order i 0) (get_or order j 0) ≡ true = eq-eqb _ _ e in
    cc

-- each process stands somewhere
pub order_has : (n : ℕ) (order : List ℕ) → IsOrder n order → (p : ℕ) → p < n → Contains order p
order_has n order is p below =
    search (arith, length-range_with_len, Contains-permutation, get_or-range_with_len, zero-add)

-- no number stands at two places
abbrev pub Differ : List ℕ → Type 0
Differ xs = (i j : ℕ) → i < j → j < length xs → get_or xs i 0 ≢ get_or xs j 0

in_rest : (x y : ℕ) (rest : List ℕ) → x ≢ y → Contains (x ∷ rest) y → Contains rest y
in_rest x y rest other has = grind arith

-- numbers that differ, all of them in a list that is no longer, are that list in another order
pub moved : (xs ys : List ℕ) → Differ xs → length xs ≡ length ys → All (Contains ys) xs → IsPermutation xs ys
moved [] [] differ long all = IsPermutation-refl []
moved [] (y ∷ ys) differ long all = absurd (omega arith)
moved (x ∷ xs) ys differ long all =
    let has : Contains ys x = All-head (Contains ys) x xs all in
    let rest : List ℕ = remove ys has.0 in
    let apart : IsPermutation ys (x ∷ rest) = IsPermutation-remove ys has.0 x has.1 (sym has.2) in
    let longer : length (x ∷ rest) ≡ length ys = length_permutation ys (x ∷ rest) apart in
    let others : All (Contains rest) xs = λ k d within.
    in_rest x (get_or xs k d) rest
    (λ same. differ 0 (suc k) (omega arith) (omega arith) (same ∙ get_or_default xs k d 0 within))
    (Contains-permutation ys (x ∷ rest) (get_or xs k d) apart (All-tail (Contains ys) x xs all k d within))
    in
    let later : Differ xs = λ i j before within. differ (suc i) (suc j) (omega arith) (omega arith) in
    let prefix : IsPermutation xs rest = moved xs rest later (omega arith) others in
    IsPermutation-trans (x ∷ xs) (x ∷ rest) ys (IsPermutation-cons x xs rest prefix)
    (IsPermutation-sym ys (x ∷ rest) apart)

-- n different processes below n are an order of them
pub order_from : (n : ℕ) (list : List ℕ) → length list ≡ n → ((i : ℕ) → i < n → get_or list i 0 < n) → Differ list
    → IsOrder n list
order_from n list long below differ =
    let many : length (range_with_len 0 n) ≡ n = length-range_with_len 0 n in
    IsPermutation-sym list (range_with_len 0 n) (moved list (range_with_len 0 n) differ (omega arith) (λ k d within.
    let same : get_or list k d ≡ get_or list k 0 = get_or_default list k d 0 within in
    let p : ℕ = get_or list k d in
    (p, omega arith, get_or-range_with_len 0 n p p (omega arith) ∙ zero-add p)))
