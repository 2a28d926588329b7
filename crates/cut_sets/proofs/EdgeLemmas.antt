-- Edges that ascend: how many are at most a number, and one more or one less.
use Rattle.std.proofs.Common.{◌≡◌, ◌∙◌, ℕ, zero, suc, ◌+◌, ◌<◌, ◌≤◌, ◌==◌, ◌%◌, Bool, cond}
use Rattle.std.proofs.Common.{List, [], ◌∷◌, length, get_or, nat_le, refl, ap, arith, zero-add}
use Rattle.std.specs.List.{count_by}
use Rattle.std.specs.List.Sorted.{IsNonDecreasing, IsPartitionPoint}
use Rattle.std.proofs.lemmas.Bool.{le-leb, lt-leb}
use Rattle.std.proofs.lemmas.List.Sums.{sum_by-cons}
use Rattle.cut_sets.specs.ranges.inside.Edges.{IsRun, is_within, is_between, flipped}

-- as many edges are at most a number as stand before the first that is above it
pub counted : (xs : List ℕ) (n i : ℕ) → i ≤ length xs → IsPartitionPoint (λ e. e ≤ n) (λ e. n < e) xs i
    → count_by (λ e. nat_le e n) xs ≡ i
counted [] n i le point = omega arith
counted (x ∷ xs) n zero le point =
    sum_by-cons _ x xs
    ∙ ap (λ b. cond b 1 0 + count_by (λ e. nat_le e n) xs) (lt-leb x n (point.1 0 x (omega arith) (omega arith)))
    ∙ zero-add _
    ∙ counted xs n zero (omega arith) (
      λ k d a b. absurd (omega arith),
      λ k d a b. point.1 (suc k) d (omega arith)
          (omega arith),
    )
counted (x ∷ xs) n (suc i) le point =
    let rest = counted xs n i (omega arith) (
      λ k d a b. point.0 (suc k) d (omega arith) (omega arith),
      λ k d a b.
          point.1 (suc k) d (omega arith) (omega arith),
    ) in
    sum_by-cons _ x xs
    ∙ ap (λ b. cond b 1 0 + count_by (λ e. nat_le e n) xs) (le-leb x n (point.0 0 x (omega arith) (omega arith)))
    ∙ omega (arith, rest)

-- and the same of every number below that first one
pub counted_on : (xs : List ℕ) (n i end t : ℕ) → IsNonDecreasing xs → i ≤ length xs
    → IsPartitionPoint (λ e. e ≤ n) (λ e. n < e) xs i → (i < length xs → end ≤ get_or xs i 0) → n ≤ t → t < end
    → count_by (λ e. nat_le e t) xs ≡ i
counted_on xs n i end t sorted le point stop low high =
    counted xs t i le (
      λ k d a b. (let w = point.0 k d a b in omega arith),
      λ k d a b.
          (let w = sorted i k 0 a b in let v = stop (omega arith) in let same = get_or_same xs k d b in omega arith),
    )
  where
    get_or_same : (xs : List ℕ) (k d : ℕ) → k < length xs → get_or xs k d ≡ get_or xs k 0
    get_or_same [] k d low = absurd (omega arith)
    get_or_same (x ∷ xs) zero d low = refl
    get_or_same (x ∷ xs) (suc k) d low = get_or_same xs k d (omega arith)

-- what is turned round from one number on, and again from another on, is turned round between them
pub flipped_twice : (from end t : ℕ) (b : Bool) → from ≤ end → flipped (nat_le end t) (flipped (nat_le from t) b)
    ≡ flipped (is_between from end t) b
flipped_twice from end t b le = grind arith

-- up to the next edge nothing changes
pub run_is : (xs : List ℕ) (n at end : ℕ) → n < 4294967295 → IsNonDecreasing xs → at ≤ length xs
    → IsPartitionPoint (λ e. e ≤ n) (λ e. n < e) xs at → (at < length xs → end ≡ get_or xs at 0)
    → (length xs ≤ at → end ≡ 4294967295) → IsRun (is_within xs) n (record { held = at % 2 == 1; end = end })
run_is xs n at end small sorted le point stop past = record {
  longer = grind arith;
  lasts = λ t low high. ap (λ k. k % 2 == 1) (counted_on xs n at end t sorted le point
      (λ in'. let e = stop in' in omega arith) low high);
}
