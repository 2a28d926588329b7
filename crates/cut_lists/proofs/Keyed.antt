-- Numbers that are sorted by a key and, where keys tie, by themselves.
use Rattle.std.proofs.Common.{◌≡◌, ℕ, ◌<◌, List, map, length, get_or, refl, ap, sym, ◌∙◌, arith}
use Rattle.std.specs.declared.cmp.Ordering.{Ordering}
use Rattle.std.specs.Ordering.{is_lt, eq_by_cmp, nat_cmp, ordering_then}
use Rattle.std.specs.Cmp.{IsTotalOrder}
use Rattle.std.specs.List.{All, IsDistinct, count_by, range_with_len}
use Rattle.std.specs.List.Sorted.{IsPermutation, IsSorted}
use Rattle.std.proofs.lemmas.Cmp.{nat_cmp_total, then_total, on_total}
use Rattle.std.proofs.lemmas.List.FromFn.{length-map-range_with_len, get_or-map-range_with_len}
use Rattle.std.proofs.lemmas.List.{get_or-map, map-id, length-map}
use Rattle.std.proofs.lemmas.List.Elements.{All-map}
use Rattle.std.proofs.lemmas.List.Sorted.{IsPermutation-map, All-permutation}
use Rattle.std.proofs.lemmas.Map.Keys.{IsDistinct-from_apart}
use Rattle.cut_lists.specs.Ranked.{IsRanked}
use Rattle.cut_lists.proofs.Maps.{count_by-map, map-map}
use Rattle.cut_lists.proofs.Ranks.{rank_is_index}

-- pairs compare by their keys, and by their numbers where these tie
abbrev pub pair_cmp : {K : Type 0} → (K → K → Ordering) → K × ℕ → K × ℕ → Ordering
pair_cmp C a b = ordering_then (C a.0 b.0) (nat_cmp a.1 b.1)

-- the first n numbers with their keys
abbrev pub keyed : {K : Type 0} → (ℕ → K) → ℕ → List (K × ℕ)
keyed key n = map (λ p. (key p, p)) (range_with_len 0 n)

-- how q and p compare by their keys
abbrev pub compare_by : {K : Type 0} → (K → K → Ordering) → (ℕ → K) → ℕ → ℕ → Ordering
compare_by C key q p = ordering_then (C (key q) (key p)) (nat_cmp q p)

keyed_apart : {K : Type 0} (C : K → K → Ordering) (key : ℕ → K) (n : ℕ)
    → IsDistinct (eq_by_cmp (pair_cmp C)) (keyed key n)
keyed_apart {K} C key n = grind (arith, IsDistinct-from_apart, length-map-range_with_len, get_or-map-range_with_len)

-- each pair's key is that of its number
keyed_by : {K : Type 0} (key : ℕ → K) (n : ℕ) → All (λ x. x ≡ (key x.1, x.1)) (keyed key n)
keyed_by {K} key n = All-map (λ x. x ≡ (key x.1, x.1)) (λ p. (key p, p)) (range_with_len 0 n) (λ k d within. refl)

numbers : {K : Type 0} (key : ℕ → K) (n : ℕ) → map (λ x. x.1) (keyed key n) ≡ range_with_len 0 n
numbers {K} key n = map-map (λ p. (key p, p)) (λ x. x.1) (range_with_len 0 n) ∙ map-id (range_with_len 0 n)

-- what a sort of the pairs gives
pub ranked : {K : Type 0} (C : K → K → Ordering) → IsTotalOrder C → (key : ℕ → K) (n : ℕ) (sorted : List (K × ℕ))
    → IsPermutation (keyed key n) sorted → IsSorted (pair_cmp C) sorted
    → IsRanked (compare_by C key) n (map (λ x. x.1) sorted)
ranked {K} C total key n sorted moved up = record {
  each_once =
      grind (arith, numbers key n, IsPermutation-map);
  ranks = λ i within.
      let long : length (map (λ x. x.1) sorted) ≡ length sorted = length-map sorted (λ x. x.1) in
      let d : K × ℕ = (key 0, 0) in
      let short : i < length sorted = omega arith in
      let x : K × ℕ = get_or sorted i d in
      let number : get_or (map (λ x. x.1) sorted) i 0 ≡ x.1 = get_or-map (λ x. x.1) sorted i d 0 short in
      let own : x ≡ (key x.1, x.1) = All-permutation (λ x. x ≡ (key x.1, x.1)) (keyed key n) sorted moved
      (keyed_by key n) i d short in
      let rank : count_by (λ y. is_lt (pair_cmp C y x)) (keyed key n) ≡ i =
      rank_is_index (pair_cmp C) (then_total (on_total (λ x. x.0) total) (on_total (λ x. x.1) nat_cmp_total))
      (keyed key n) sorted moved up (keyed_apart C key n) i d short
      in
      ap (λ p. count_by (λ q. is_lt (compare_by C key q p)) (range_with_len 0 n)) number
      ∙ sym (count_by-map (λ y. is_lt (pair_cmp C y (key x.1, x.1))) (λ q. (key q, q)) (range_with_len 0 n))
      ∙ ap (λ z. count_by (λ y. is_lt (pair_cmp C y z)) (keyed key n)) (sym own)
      ∙ rank;
}
