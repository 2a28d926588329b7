-- Tests of numbers, and counts of what passes them.
use Rattle.std.proofs.Common.{◌≡◌, ℕ, zero, suc, ◌+◌, ◌<◌, ◌≤◌, Bool, true, false, cond, List, [], ◌∷◌, not}
use Rattle.std.proofs.Common.{nat_lt, nat_le, get_or, length, refl, ap, sym, arith}
use Rattle.std.specs.List.{count_by, range_with_len}
use Rattle.std.proofs.lemmas.Bool.Decides.{nat_tests}
use Rattle.std.proofs.lemmas.List.Sums.{sum_by_push, sum_by-cons}
use Rattle.std.proofs.lemmas.List.Folds.{list_any_at}
use Rattle.cut_lists.proofs.Counts.{list_any-count_by}
use Rattle.cut_lists.proofs.Ranges.{range_with_len_more}

-- tests that imply each other
pub both_imply : (x y : Bool) → (x ≡ true → y ≡ true) → (y ≡ true → x ≡ true) → x ≡ y
both_imply true y there back = sym (there refl)
both_imply false true there back = back refl
both_imply false false there back = refl

pub lt_is_not_le : (a b : ℕ) → nat_lt a b ≡ not (nat_le b a)
lt_is_not_le a b = grind (arith, nat_tests)

-- a test that stays true once it is
pub record IsKept (p : ℕ → Bool) : Type 0 where
  pub kept : (a b : ℕ) → a ≤ b → p a ≡ true → p b ≡ true

-- below `end` a test is true exactly from x on
pub record IsTrueFrom (p : ℕ → Bool) (end x : ℕ) : Type 0 where
  pub within : x ≤ end
  pub comes : (t : ℕ) → t < end → p t ≡ nat_le x t

-- how many of the first numbers fail it
abbrev pub fails_before : (ℕ → Bool) → ℕ → ℕ
fails_before p end = count_by (λ t. not (p t)) (range_with_len 0 end)

fails_more : (p : ℕ → Bool) (n : ℕ) → fails_before p (n + 1) ≡ fails_before p n + cond (not (p n)) 1 0
fails_more p n =
    grind (arith, range_with_len_more 0 n n, sum_by_push)

unturned : (p : ℕ → Bool) → IsKept p → (n : ℕ) → IsTrueFrom p n (fails_before p n) → p n ≡ false
    → fails_before p (n + 1) ≡ fails_before p n + cond (not (p n)) 1 0 → IsTrueFrom p (n + 1) (fails_before p (n + 1))
unturned p keeps n before fails more =
    grind arith

-- is where it turns true
pub turns : (p : ℕ → Bool) → IsKept p → (end : ℕ) → IsTrueFrom p end (fails_before p end)
turns p keeps zero = record { within = omega arith; comes = λ t low. absurd (omega (arith, low)) }
turns p keeps (suc n) =
    grind (arith, fails_more p n, unturned p keeps n, turns p keeps n)

-- ---- two elements that pass

one_passes : {X : Type 0} (p : X → Bool) (xs : List X) (i : ℕ) (d : X) → i < length xs → p (get_or xs i d) ≡ true
    → 1 ≤ count_by p xs
one_passes p xs i d within is =
    grind (arith, list_any-count_by p xs, list_any_at p xs i d within is)

pub two_pass : {X : Type 0} (p : X → Bool) (xs : List X) (i j : ℕ) (d : X) → i < j → j < length xs
    → p (get_or xs i d) ≡ true → p (get_or xs j d) ≡ true → 2 ≤ count_by p xs
two_pass p [] i j d before within one other = absurd (omega (arith, within))
two_pass p (x ∷ xs) i zero d before within one other = absurd (omega (arith, before))
two_pass p (x ∷ xs) zero (suc j) d before within one other =
    let here : cond {A = ℕ} (p x) 1 0 ≡ 1 = ap (λ (b : Bool). cond {A = ℕ} b 1 0) one in
    omega (arith, here, sum_by-cons (λ y. cond (p y) 1 0) x xs, one_passes p xs j d (omega (arith, within)) other)
two_pass p (x ∷ xs) (suc i) (suc j) d before within one other =
    search (arith, sum_by-cons, two_pass p xs i j d)
