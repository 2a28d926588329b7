-- Two ascending lists with the same elements are equal.
use Rattle.std.proofs.Common.{◌≡◌, inl, inr, ℕ, Bool, true, false, ◌==◌, ◌&&◌, List, nat_lt, refl, ap, sym, ◌∙◌, arith}
use Rattle.std.specs.List.{range_with_len, list_any, filter, IsDistinct}
use Rattle.std.specs.List.Sorted.{IsSorted, IsPermutation, IsStrictlySortedBy}
use Rattle.std.specs.Ordering.{nat_cmp, is_eq}
use Rattle.std.specs.BTreeSet.{BTreeSet}
use Rattle.std.proofs.lemmas.Bool.{cases_lt, eq-eqb, eqb-true, lt-ltb, le-ltb}
use Rattle.std.proofs.lemmas.Bool.Decides.{Decides-eqb}
use Rattle.std.proofs.lemmas.Cmp.{nat_cmp_total, nat_eq_equiv}
use Rattle.std.proofs.lemmas.List.Kept.{AllPairs-filter, IsStrictlySortedBy-filter}
use Rattle.std.proofs.lemmas.List.Sorted.{IsNonDecreasingBy-from_sort, list_any-IsPermutation}
use Rattle.std.proofs.lemmas.Map.Keys.{IsDistinct-IsPermutation, IsStrictlyIncreasing-from_distinct}
use Rattle.std.proofs.lemmas.Map.Keys.{sorted_from_strictly_increasing}
use Rattle.std.proofs.lemmas.Map.Lookups.{btree_set_from_contains, exact_unsigned}
use Rattle.std.proofs.lemmas.Map.Made.{AllPairs-from_IsDistinct, IsDistinct-from_AllPairs}
use Rattle.std.proofs.lemmas.Map.Views.{any-filter_same}
use Rattle.cut_lists.proofs.Ranges.{filter_agree_on, range-rises, list_any_passing, list_any_none_passing}

IsDistinct-filter : (p : ℕ → Bool) (xs : List ℕ) → IsDistinct ◌==◌ xs → IsDistinct ◌==◌ (filter p xs)
IsDistinct-filter p xs distinct = IsDistinct-from_AllPairs Decides-eqb _
    (AllPairs-filter (λ (x y : ℕ). x ≡ y → ⊥) p xs (AllPairs-from_IsDistinct Decides-eqb xs distinct))

ascending : (xs ys : List ℕ) → IsDistinct ◌==◌ xs → IsPermutation xs ys → IsSorted nat_cmp ys
    → IsStrictlySortedBy nat_cmp ys
ascending xs ys distinct permutation order =
    sorted_from_strictly_increasing ys (IsStrictlyIncreasing-from_distinct ys
    (IsNonDecreasingBy-from_sort (λ x. x) ys order)
    (IsDistinct-IsPermutation ◌==◌ (λ x y. nat_eq_equiv.symm x y) xs ys permutation distinct))

is_at : (q k : ℕ) → is_eq (nat_cmp q k) ≡ (q == k)
is_at q k = grind arith

-- what of a list passes is in it
kept : (p : ℕ → Bool) (xs : List ℕ) (q : ℕ) → list_any (λ k. q == k) (filter p xs) ≡ (p q && list_any (λ k. q == k) xs)
kept p xs q = any-filter_same (λ k. q == k) p (p q) (λ k same. ap p (sym (eqb-true q k same))) xs

ranged : (n q : ℕ) → list_any (λ k. q == k) (range_with_len 0 n) ≡ nat_lt q n
ranged n q = elim (cases_lt q n) [
  | inl below ↦ list_any_passing (λ k. q == k) 0 n q (omega arith) (omega arith) (eq-eqb q q refl)
      ∙ sym (lt-ltb q n below)
  | inr above ↦ list_any_none_passing (λ k. q == k) 0 n (λ i _ low e. let same : q ≡ i = eqb-true q i e in omega arith)
      ∙ sym (le-ltb q n above)
]

-- what passes in a range is what the range has of it
pub filter-again : (p : ℕ → Bool) (n : ℕ)
    → filter p (range_with_len 0 n)
    ≡ filter (λ q. list_any (λ k. k == q) (filter p (range_with_len 0 n))) (range_with_len 0 n)
filter-again p n =
    grind (arith, filter_agree_on p, ranged n, kept p (range_with_len 0 n))

where_true : (b x y : Bool) → (b ≡ true → x ≡ y) → b && x ≡ b && y
where_true true x y same = same refl
where_true false x y same = refl

-- what passes among a list, sorted, is what passes among the first n numbers, where the list has each of these once
pub sorted-filter : (p : ℕ → Bool) (n : ℕ) (xs ys : List ℕ) → IsDistinct ◌==◌ xs
    → ((q : ℕ) → p q ≡ true → list_any (λ k. q == k) xs ≡ nat_lt q n) → IsPermutation (filter p xs) ys
    → IsSorted nat_cmp ys → ys ≡ filter p (range_with_len 0 n)
sorted-filter p n xs ys distinct held permutation order =
    let range : List ℕ = range_with_len 0 n in
    let all : BTreeSet ℕ = record { keys = filter p range } in
    btree_set_from_contains nat_cmp_total (record { keys = ys }) all
    (ascending (filter p xs) ys (IsDistinct-filter p xs distinct) permutation order)
    (IsStrictlySortedBy-filter nat_cmp p range (sorted_from_strictly_increasing range (range-rises 0 n)))
    (λ q.
    ap (λ (f : ℕ → Bool). list_any f ys) (λ i k. is_at q k i)
    ∙ sym (list_any-IsPermutation (λ k. q == k) (filter p xs) ys permutation)
    ∙ kept p xs q
    ∙ where_true (p q) _ _ (λ passes. held q passes ∙ sym (ranged n q))
    ∙ sym (kept p range q)
    ∙ sym (ap (λ (f : ℕ → Bool). list_any f (filter p range)) (λ i k. is_at q k i)))
    exact_unsigned
