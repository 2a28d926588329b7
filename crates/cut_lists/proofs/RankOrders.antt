-- The ranks of the first n numbers, by a total order that distinguishes them, are these numbers in some order.
use Rattle.std.proofs.Common.{◌≡◌, ◌≢◌, ℕ, zero, suc, ◌+◌, ◌-◌, ◌<◌, Bool, cond, map, not, nat_lt, get_or, refl}
use Rattle.std.proofs.Common.{sym, ap, ◌∙◌, arith, zero-add}
use Rattle.std.specs.Prelude.{count_by}
use Rattle.std.specs.List.{range_with_len, Contains}
use Rattle.std.specs.declared.cmp.Ordering.{Ordering}
use Rattle.std.specs.declared.cmp.Ordering.TheVariants.{Less, Equal, Greater}
use Rattle.std.specs.Ordering.{is_lt, ordering_reverse}
use Rattle.std.specs.Cmp.{IsTotalOrder}
use Rattle.std.proofs.lemmas.List.FromFn.{length-range_with_len, length-map-range_with_len, get_or-map-range_with_len}
use Rattle.std.proofs.lemmas.List.Sorted.{sum_by-IsPermutation}
use Rattle.std.proofs.lemmas.List.Sums.{sum_by_push}
use Rattle.std.proofs.lemmas.Map.Lookups.{CmpEqualImpliesEq}
use Rattle.cut_lists.specs.Ranked.{IsOrder}
use Rattle.cut_lists.proofs.Maps.{count_by-map}
use Rattle.cut_lists.proofs.Orders.{order_from}
use Rattle.cut_lists.proofs.Ranges.{range_with_len_more, Contains-range_with_len}
use Rattle.cut_lists.proofs.Ranks.{rank-below, rank-less}

-- n - f of the first n numbers are f or above
pub count_by-above : (n f : ℕ) → count_by (λ k. not (nat_lt k f)) (range_with_len 0 n) ≡ n - f
count_by-above zero f = omega arith
count_by-above (suc n) f =
    let late : ℕ → Bool = λ k. not (nat_lt k f) in
    let one : suc n ≡ n + 1 = omega arith in
    let more =
    ap (λ k. count_by late (range_with_len 0 k)) one
    ∙ ap (count_by late) (range_with_len_more 0 n n (zero-add n))
    ∙ sum_by_push (λ k. cond (late k) 1 0) (range_with_len 0 n) n in
    grind (arith, count_by-above n f)

-- how many of the first n numbers come before p
abbrev pub rank_of : (ℕ → ℕ → Ordering) → ℕ → ℕ → ℕ
rank_of R n p = count_by (λ q. is_lt (R q p)) (range_with_len 0 n)

below : (n p : ℕ) → p < n → Contains (range_with_len 0 n) p
below n p within = Contains-range_with_len 0 n p (omega arith) (omega arith)

ranks-differ : {R : ℕ → ℕ → Ordering} → IsTotalOrder R → CmpEqualImpliesEq R → (n p q : ℕ) → p < n → q < n
    → p ≢ q → rank_of R n p ≢ rank_of R n q
ranks-differ {R} total exact n p q low high apart same = by (R p q) refl
  where
    by : (r : Ordering) → R p q ≡ r → ⊥
    by Less is = omega (arith, rank-less total (range_with_len 0 n) p q (below n p low) is, same)
    by Equal is = apart (exact p q is)
    by Greater is =
        let back : R q p ≡ Less = total.antisymm q p ∙ ap ordering_reverse is in
        omega (arith, rank-less total (range_with_len 0 n) q p (below n q high) back, same)

-- numbers of one rank are one
pub ranks-decide : {R : ℕ → ℕ → Ordering} → IsTotalOrder R → CmpEqualImpliesEq R → (n p q : ℕ) → p < n → q < n
    → rank_of R n p ≡ rank_of R n q → p ≡ q
ranks-decide total exact n p q low high same = grind (arith, ranks-differ total exact n p q low high)

pub ranks-are_all : {R : ℕ → ℕ → Ordering} → IsTotalOrder R → CmpEqualImpliesEq R → (n : ℕ)
    → IsOrder n (map (rank_of R n) (range_with_len 0 n))
ranks-are_all {R} total exact n =
    let at : (i : ℕ) → i < n → get_or (map (rank_of R n) (range_with_len 0 n)) i 0 ≡ rank_of R n i =
    λ i low. get_or-map-range_with_len (rank_of R n) 0 n i i 0 low (zero-add i) in
    order_from n (map (rank_of R n) (range_with_len 0 n)) (length-map-range_with_len (rank_of R n) 0 n)
    (λ i low. (let under = rank-below total (range_with_len 0 n) i (below n i low) in
    omega (arith, at i low, under, length-range_with_len 0 n)))
    (λ i j before within same.
    (let high : j < n = omega (arith, within, length-map-range_with_len (rank_of R n) 0 n) in
    ranks-differ total exact n i j (omega arith) high (λ e. omega arith)
    (sym (at i (omega arith)) ∙ same ∙ at j high)))

-- so n - f of them have a rank of f or above
pub count_by-ranks_above : {R : ℕ → ℕ → Ordering} → IsTotalOrder R → CmpEqualImpliesEq R → (n f : ℕ)
    → count_by (λ p. not (nat_lt (rank_of R n p) f)) (range_with_len 0 n) ≡ n - f
count_by-ranks_above {R} total exact n f =
    let late : ℕ → Bool = λ k. not (nat_lt k f) in
    sym (count_by-map late (rank_of R n) (range_with_len 0 n))
    ∙ sum_by-IsPermutation (λ k. cond (late k) 1 0) (range_with_len 0 n)
    (map (rank_of R n) (range_with_len 0 n)) (ranks-are_all total exact n)
    ∙ count_by-above n f
