-- How many of a list pass a test, and whether some do.
use Rattle.std.proofs.lemmas.Grind.{common_steps}
use Rattle.std.proofs.Common.{◌≡◌, ℕ, zero, suc, ◌+◌, ◌<◌, ◌≤◌, Bool, true, false, cond, ◌==◌, ◌&&◌, ◌||◌}
use Rattle.std.proofs.Common.{List, [], ◌∷◌, IsTrue, not, nat_lt, length, get_or, take, filter, refl, ap, sym, ◌∙◌}
use Rattle.std.proofs.Common.{arith}
use Rattle.std.specs.List.{range_with_len, count_by, list_any, All, Contains}
use Rattle.std.proofs.lemmas.Bool.{ne_eqb, lt-ltb}
use Rattle.std.proofs.lemmas.List.Elements.{All-head, All-tail, Contains-get_or}
use Rattle.std.proofs.lemmas.List.Folds.{Any-from_list_any, list_any_at}
use Rattle.std.proofs.lemmas.List.Sums.{sum_by-cons}
use Rattle.cut_lists.proofs.Ranges.{AgreeOn, count_by_agree, list_any_agree}

one_more : (b rest : Bool) (n : ℕ) → rest ≡ nat_lt 0 n → b || rest ≡ nat_lt 0 (cond b 1 0 + n)
one_more true rest n e = sym (lt-ltb 0 (1 + n) (omega arith))
one_more false rest n e = e ∙ ap (nat_lt 0) (let w : n ≡ 0 + n = omega arith in w)

-- some element passes where the count is above 0
pub list_any-count_by : {X : Type 0} (p : X → Bool) (xs : List X) → list_any p xs ≡ nat_lt 0 (count_by p xs)
list_any-count_by p [] = refl
list_any-count_by p (x ∷ xs) =
    search (arith, one_more, sum_by-cons, list_any-count_by p xs)

-- two tests that differ at one number alone
pub record DifferAt (p q : ℕ → Bool) (s : ℕ) : Type 0 where
  pub others : (i : ℕ) → (i ≡ s → ⊥) → p i ≡ q i

pub count_by-differ : (p q : ℕ → Bool) (a n s : ℕ) → DifferAt p q s → a ≤ s → s < a + n
    → count_by q (range_with_len a n) + cond (p s) 1 0 ≡ count_by p (range_with_len a n) + cond (q s) 1 0
count_by-differ p q a zero s differ low high = absurd (omega arith)
count_by-differ p q a (suc n) s differ low high =
    grind (arith, common_steps, count_by_agree, count_by-differ p q (a + 1) n s differ)

-- a number is 0 or above
pub not_above : (n : ℕ) → (n == 0) ≡ not (nat_lt 0 n)
not_above zero = refl
not_above (suc n) = ne_eqb (suc n) 0 (λ e. omega arith) ∙ sym (ap not (lt-ltb 0 (suc n) (omega arith)))

-- some number passes one test and none another, where the tests agree with others
pub some_and_none_agree : (p q f g : ℕ → Bool) (n : ℕ) → AgreeOn p f 0 n → AgreeOn q g 0 n
    → list_any p (range_with_len 0 n) && not (list_any q (range_with_len 0 n)) ≡ list_any f (range_with_len 0 n)
    && not (list_any g (range_with_len 0 n))
some_and_none_agree p q f g n some none =
    grind (arith, list_any_agree)

-- what passes among the first m entries does among the first n
pub list_any_take-le : {X : Type 0} (p : X → Bool) (m n : ℕ) (xs : List X) → m ≤ n → IsTrue (list_any p (take m xs))
    → IsTrue (list_any p (take n xs))
list_any_take-le p zero n xs before is = absurd (cc)
list_any_take-le p (suc m) zero xs before is = absurd (omega arith)
list_any_take-le p (suc m) (suc n) [] before is = is
list_any_take-le p (suc m) (suc n) (x ∷ xs) before is = grind (arith, list_any_take-le p m n xs)

-- some element passes a test that another implies
pub list_any-implied : {X : Type 0} (s t : X → Bool) (xs : List X) → ((x : X) → s x ≡ true → t x ≡ true)
    → list_any s xs ≡ true → list_any t xs ≡ true
list_any-implied s t xs implies is =
    grind (arith, Any-from_list_any, list_any_at)

-- and some element of a list that has all of another's
pub list_any-among : {X : Type 0} (t : X → Bool) (xs ys : List X)
    → ((x : X) → Contains xs x → Contains ys x) → list_any t xs ≡ true → list_any t ys ≡ true
list_any-among t xs ys among is =
    let at = Any-from_list_any t xs is in
    let found = among (get_or xs at.0 at.1) (Contains-get_or xs at.0 at.1 at.2) in
    list_any_at t ys found.0 (get_or xs at.0 at.1) found.1 (ap t (found.2 ∙ at.3) ∙ at.4)

-- nothing is kept where nothing passes
pub filter-none : {X : Type 0} (p : X → Bool) (xs : List X) → All (λ x. p x ≡ false) xs → filter p xs ≡ []
filter-none p [] none = refl
filter-none p (x ∷ xs) none =
    ap (λ b. cond b (x ∷ filter p xs) (filter p xs)) (All-head (λ y. p y ≡ false) x xs none)
    ∙ filter-none p xs (All-tail (λ y. p y ≡ false) x xs none)

-- ---- two tests that no element passes both

-- they are passed by no more together than two others, one of which each element then passes
pub counts-into : {X : Type 0} (p q s t : X → Bool) (xs : List X) → ((x : X) → p x ≡ true → q x ≡ true → ⊥)
    → ((x : X) → p x || q x ≡ true → s x || t x ≡ true)
    → count_by p xs + count_by q xs ≤ count_by s xs + count_by t xs
counts-into p q s t [] apart into = omega arith
counts-into {X} p q s t (x ∷ xs) apart into =
    grind (arith, common_steps, counts-into p q s t xs apart into)

-- and by no more than there are
pub counts-apart : {X : Type 0} (p q : X → Bool) (xs : List X) → ((x : X) → p x ≡ true → q x ≡ true → ⊥)
    → count_by p xs + count_by q xs ≤ length xs
counts-apart p q [] apart = omega arith
counts-apart p q (x ∷ xs) apart =
    grind (arith, common_steps, counts-apart p q xs apart)

-- each that passes one test passes just one of two others
pub count_by-parts : {X : Type 0} (p q r : X → Bool) (xs : List X)
    → ((x : X) → cond {A = ℕ} (p x) 1 0 ≡ cond (q x) 1 0 + cond (r x) 1 0)
    → count_by p xs ≡ count_by q xs + count_by r xs
count_by-parts p q r [] parts = refl
count_by-parts {X} p q r (x ∷ xs) parts =
    search (arith, sum_by-cons, count_by-parts p q r xs parts)

-- then some pass the second and none the third where some do and these are as many as pass the first
pub some_and_none-count : {X : Type 0} (p q r : X → Bool) (xs : List X)
    → ((x : X) → cond {A = ℕ} (p x) 1 0 ≡ cond (q x) 1 0 + cond (r x) 1 0)
    → list_any q xs && not (list_any r xs) ≡ nat_lt 0 (count_by q xs) && (count_by q xs == count_by p xs)
some_and_none-count p q r xs parts =
    grind (arith, count_by-parts p q r xs parts, list_any-count_by q xs, list_any-count_by r xs)
