-- Numbers from one up to another, and tests that all of them pass.
use Rattle.std.proofs.Common.{◌≡◌, ℕ, zero, suc, ◌+◌, ◌-◌, ◌<◌, ◌≤◌, Bool, true, false, ◌&&◌}
use Rattle.std.proofs.Common.{◌∷◌, map, length, take, drop, get_or, nat_lt, nat_le, refl, ap, ◌∙◌}
use Rattle.std.proofs.Common.{arith}
use Rattle.std.specs.List.{range_with_len, list_all, prefix_len}
use Rattle.std.proofs.lemmas.Bool.{lt-ltb, le-leb, lt-leb}
use Rattle.std.proofs.lemmas.List.Folds.{list_all_at}
use Rattle.std.proofs.lemmas.List.FromFn.{length-range_with_len, get_or-range_with_len}
use Rattle.std.proofs.lemmas.List.Sums.{list_all-from_AllPass, prefix_len_is}
use Rattle.cut_lists.proofs.Ranges.{All-range_with_len}

-- ---- a number between two others

-- from a on, below b
abbrev pub within : ℕ → ℕ → ℕ → Bool
within a b t = nat_le a t && nat_lt t b

pub within_is : (a b t : ℕ) → a ≤ t → t < b → within a b t ≡ true
within_is a b t low high = ap (λ x. x && nat_lt t b) (le-leb a t low) ∙ lt-ltb t b high

pub within_below : (a b t : ℕ) → t < a → within a b t ≡ false
within_below a b t low = ap (λ x. x && nat_lt t b) (lt-leb a t low)

pub within_above : (a b t : ℕ) → b ≤ t → within a b t ≡ false
within_above a b t high = grind arith

-- ---- a test that all numbers of a range pass

pub list_all_passing : (p : ℕ → Bool) (a n : ℕ) → ((t : ℕ) → a ≤ t → t < a + n → p t ≡ true)
    → list_all p (range_with_len a n) ≡ true
list_all_passing p a n each =
    list_all-from_AllPass p (range_with_len a n) (All-range_with_len (λ t. p t ≡ true) a n each)

pub list_all_failing : (p : ℕ → Bool) (a n t : ℕ) → a ≤ t → t < a + n → p t ≡ false
    → list_all p (range_with_len a n) ≡ false
list_all_failing p a n t low high fails =
    let long : length (range_with_len a n) ≡ n = length-range_with_len a n in
    let at : get_or (range_with_len a n) (t - a) 0 ≡ t =
    get_or-range_with_len a n (t - a) 0 (omega arith) ∙ omega arith in
    list_all_at p (range_with_len a n) (t - a) 0 (omega arith) (ap p at ∙ fails)

-- what passes on all of a range passes at each number of it
pub passes_at : (p : ℕ → Bool) (a n : ℕ) → list_all p (range_with_len a n) ≡ true
    → (t : ℕ) → a ≤ t → t < a + n → p t ≡ true
passes_at p a n all t low high = grind (arith, list_all_failing p a n t low high)

-- how many numbers of a range are before the first that fails
pub first_failing : (p : ℕ → Bool) (a m n : ℕ) → m ≤ n → ((t : ℕ) → a ≤ t → t < a + m → p t ≡ true)
    → (m < n → p (a + m) ≡ false) → prefix_len p (range_with_len a n) ≡ m
first_failing p a m n few passes stops =
    grind (arith, length-range_with_len a n, prefix_len_is p (range_with_len a n) m 0, get_or-range_with_len a n)

-- ---- tests that agree

pub list_all_agree : (p q : ℕ → Bool) (a n : ℕ) → ((t : ℕ) → a ≤ t → t < a + n → p t ≡ q t)
    → list_all p (range_with_len a n) ≡ list_all q (range_with_len a n)
list_all_agree p q a zero agree = refl
list_all_agree p q a (suc n) agree =
    grind (arith, list_all_agree p q (a + 1) n)

pub map_agree : {X : Type 0} (f g : ℕ → X) (a n : ℕ) → ((t : ℕ) → a ≤ t → t < a + n → f t ≡ g t)
    → map f (range_with_len a n) ≡ map g (range_with_len a n)
map_agree f g a zero agree = refl
map_agree f g a (suc n) agree =
    grind (arith, map_agree f g (a + 1) n)

-- ---- the first numbers of a range, and the rest

pub take_range : (a n k : ℕ) → k ≤ n → take k (range_with_len a n) ≡ range_with_len a k
take_range a n zero few = refl
take_range a zero (suc k) few = absurd (omega arith)
take_range a (suc n) (suc k) few = ap (λ xs. a ∷ xs) (take_range (a + 1) n k (omega arith))

pub drop_range : (a n k : ℕ) → k ≤ n → drop k (range_with_len a n) ≡ range_with_len (a + k) (n - k)
drop_range a n zero few =
    grind arith
drop_range a zero (suc k) few = absurd (omega arith)
drop_range a (suc n) (suc k) few =
    grind (arith, drop_range (a + 1) n k)
