-- Tests, counts and filters over the numbers of a range.
use Rattle.std.proofs.lemmas.Grind.{common_steps}
use Rattle.std.proofs.Common.{◌≡◌, ℕ, zero, suc, ◌+◌, ◌-◌, ◌<◌, ◌≤◌, Bool, true, false, cond, ◌||◌, List, [], ◌∷◌, ◌++◌}
use Rattle.std.proofs.Common.{map, length, ap, sym, ◌∙◌, refl, append-nil, arith, add-one}
use Rattle.std.proofs.Common.{add-zero, zero-add}
use Rattle.std.specs.List.{range_with_len, filter, list_any, count_by, Contains, All}
use Rattle.std.specs.List.Sorted.{IsStrictlyIncreasing}
use Rattle.std.proofs.lemmas.Bool.{cases_lt, false_from_ne_true}
use Rattle.std.proofs.lemmas.List.FromFn.{length-range_with_len, get_or-range_with_len}
use Rattle.std.proofs.lemmas.List.Elements.{filter-append, filter_passes, All-filter}
use Rattle.std.proofs.lemmas.List.Elements.{Contains-append_right}
use Rattle.std.proofs.lemmas.List.{map-append}
use Rattle.std.proofs.lemmas.List.Sums.{length-filter, count_by-le-length}

-- what holds from a up to a + n holds of each number of the range
pub All-range_with_len : (P : ℕ → Type 0) (a n : ℕ) → ((i : ℕ) → a ≤ i → i < a + n → P i)
    → All P (range_with_len a n)
All-range_with_len P a n each k d within =
    grind (arith, length-range_with_len, get_or-range_with_len)

-- and each of these numbers is in it
pub Contains-range_with_len : (a n i : ℕ) → a ≤ i → i < a + n → Contains (range_with_len a n) i
Contains-range_with_len a n i low high = grind (arith, length-range_with_len a n, get_or-range_with_len a n (i - a) i)

-- one more number stands at the end
pub range_with_len_more : (a n j : ℕ) → a + n ≡ j → range_with_len a (n + 1) ≡ range_with_len a n ++ j ∷ []
range_with_len_more a n j e = rw add-one (go a n j e)
  where
    go : (a n j : ℕ) → a + n ≡ j → range_with_len a (suc n) ≡ range_with_len a n ++ j ∷ []
    go a zero j e = ap (λ x. x ∷ []) (let w : a ≡ j = omega arith in w)
    go a (suc n) j e = ap (λ xs. a ∷ xs) (go (a + 1) n j (omega arith))

pub filter_one_more : (p : ℕ → Bool) (n : ℕ) → filter p (range_with_len 0 (n + 1)) ≡ filter p (range_with_len 0 n)
    ++ cond (p n) (n ∷ []) []
filter_one_more p n =
    ap (filter p) (range_with_len_more 0 n n (omega arith)) ∙ filter-append p (range_with_len 0 n) (n ∷ [])

-- a list of what passes below n, with n where it passes
pub filter_kept : (p : ℕ → Bool) (n : ℕ) (olds : List ℕ) → p n ≡ true → olds ≡ filter p (range_with_len 0 n) → olds ++ n
    ∷ [] ≡ filter p (range_with_len 0 (n + 1))
filter_kept p n olds passes e = ap (λ xs. xs ++ n ∷ []) e
    ∙ sym (filter_one_more p n ∙ ap (λ b. filter p (range_with_len 0 n) ++ cond b (n ∷ []) []) passes)

pub filter_left : (p : ℕ → Bool) (n : ℕ) (olds : List ℕ) → p n ≡ false → olds ≡ filter p (range_with_len 0 n) → olds
    ≡ filter p (range_with_len 0 (n + 1))
filter_left p n olds fails e = e ∙ sym (filter_one_more p n
    ∙ ap (λ b. filter p (range_with_len 0 n) ++ cond b (n ∷ []) []) fails ∙ append-nil _)

-- two tests that agree on a range count, find and keep the same there
pub record AgreeOn (p q : ℕ → Bool) (a n : ℕ) : Type 0 where
  pub same : (i : ℕ) → a ≤ i → i < a + n → p i ≡ q i

agree_after : (p q : ℕ → Bool) (a n : ℕ) → AgreeOn p q a (suc n) → AgreeOn p q (a + 1) n
agree_after p q a n agree = record { same = λ i low high. agree.same i (omega arith) (omega arith) }

pub count_by_agree : (p q : ℕ → Bool) (a n : ℕ) → AgreeOn p q a n → count_by p (range_with_len a n)
    ≡ count_by q (range_with_len a n)
count_by_agree p q a zero agree = refl
count_by_agree p q a (suc n) agree =
    grind (arith, common_steps, count_by_agree p q (a + 1) n (agree_after p q a n agree))

pub list_any_agree : (p q : ℕ → Bool) (a n : ℕ) → AgreeOn p q a n → list_any p (range_with_len a n)
    ≡ list_any q (range_with_len a n)
list_any_agree p q a zero agree = refl
list_any_agree p q a (suc n) agree =
    grind (arith, list_any_agree p q (a + 1) n (agree_after p q a n agree))

pub filter_agree_on : (p q : ℕ → Bool) (a n : ℕ) → AgreeOn p q a n → filter p (range_with_len a n)
    ≡ filter q (range_with_len a n)
filter_agree_on p q a zero agree = refl
filter_agree_on p q a (suc n) agree =
    grind (arith, filter_agree_on p q (a + 1) n (agree_after p q a n agree))

-- a number of a range that passes, and what it means that none does
pub record PassesAt (p : ℕ → Bool) (a n i : ℕ) : Type 0 where
  pub from : a ≤ i
  pub below : i < a + n
  pub passes : p i ≡ true

pub passing : (p : ℕ → Bool) (a n : ℕ) → list_any p (range_with_len a n) ≡ true → (i : ℕ) × PassesAt p a n i
passing p a zero e = absurd (let h : ⊥ = cc in h)
passing p a (suc n) e = go (p a) refl (passing p (a + 1) n)
  where
    go : (b : Bool) → p a ≡ b → (list_any p (range_with_len (a + 1) n) ≡ true → (i : ℕ) × PassesAt p (a + 1) n i)
        → (i : ℕ) × PassesAt p a (suc n) i
    go true is later = (a, record { from = omega arith; below = omega arith; passes = is })
    go false is later =
        let at = later (ap (λ b. b || list_any p (range_with_len (a + 1) n)) (sym is) ∙ e) in (
          at.0,
          record {
            from = (let w = at.1.from in omega arith);
            below = (let w = at.1.below in omega arith);
            passes =
                at.1.passes;
          },
        )

pub list_any_passing : (p : ℕ → Bool) (a n i : ℕ) → a ≤ i → i < a + n → p i ≡ true → list_any p (range_with_len a n)
    ≡ true
list_any_passing p a zero i low high e = absurd (omega arith)
list_any_passing p a (suc n) i low high e = grind (arith, list_any_passing p (a + 1) n i)

pub none_passing : (p : ℕ → Bool) (a n i : ℕ) → list_any p (range_with_len a n) ≡ false → a ≤ i → i < a + n → p i
    ≡ false
none_passing p a n i e low high = false_from_ne_true (p i)
    (λ t. let w : list_any p (range_with_len a n) ≡ true = list_any_passing p a n i low high t in cc)

pub list_any_none_passing : (p : ℕ → Bool) (a n : ℕ) → ((i : ℕ) → a ≤ i → i < a + n → p i ≡ true → ⊥)
    → list_any p (range_with_len a n) ≡ false
list_any_none_passing p a n none = false_from_ne_true _
    (λ t. let at = passing p a n t in none at.0 at.1.from at.1.below at.1.passes)

-- what a filter of a range holds
pub Contains-filter_of : (p : ℕ → Bool) (a n s : ℕ) → Contains (filter p (range_with_len a n)) s → PassesAt p a n s
Contains-filter_of p a n s at =
    let InRange : ℕ → Type 0 = λ x. (a ≤ x) × (x < a + n) in
    let all : All InRange (range_with_len a n) = All-range_with_len InRange a n (λ i low high. (low, high)) in
    grind (arith, All-filter p InRange (range_with_len a n) all, filter_passes p (range_with_len a n))

contains_later : (b : Bool) (a : ℕ) (xs : List ℕ) (s : ℕ) → Contains xs s → Contains (cond b (a ∷ xs) xs) s
contains_later true a xs s at = Contains-append_right (a ∷ []) xs s at
contains_later false a xs s at = at

pub Contains_filter : (p : ℕ → Bool) (a n s : ℕ) → PassesAt p a n s → Contains (filter p (range_with_len a n)) s
Contains_filter p a zero s at = absurd (omega arith)
Contains_filter p a (suc n) s at =
    grind (arith, cases_lt a s, contains_later (p a) a, Contains_filter p (a + 1) n s)

pub range-rises : (a n : ℕ) → IsStrictlyIncreasing (range_with_len a n)
range-rises a n k low =
    grind (arith, length-range_with_len, get_or-range_with_len)

-- ---- one number more

-- the numbers below n + 1 that pass, where n does, and where it does not
pub filter_more_kept : (p : ℕ → Bool) (n : ℕ) → p n ≡ true → filter p (range_with_len 0 (n + 1))
    ≡ filter p (range_with_len 0 n) ++ n ∷ []
filter_more_kept p n passes = sym (filter_kept p n (filter p (range_with_len 0 n)) passes refl)

pub filter_more_skipped : (p : ℕ → Bool) (n : ℕ) → p n ≡ false → filter p (range_with_len 0 (n + 1))
    ≡ filter p (range_with_len 0 n)
filter_more_skipped p n fails = sym (filter_left p n (filter p (range_with_len 0 n)) fails refl)

-- the same, of what is made of each number
pub map_filter_kept : {X : Type 0} (f : ℕ → X) (p : ℕ → Bool) (n : ℕ) → p n ≡ true
    → map f (filter p (range_with_len 0 (n + 1))) ≡ map f (filter p (range_with_len 0 n)) ++ f n ∷ []
map_filter_kept f p n passes = ap (λ xs. map f xs) (filter_more_kept p n passes)
    ∙ map-append f (filter p (range_with_len 0 n)) (n ∷ [])

-- a list of n and one of the numbers after them
pub ranges-join : (a m n : ℕ) → range_with_len a m ++ range_with_len (a + m) n ≡ range_with_len a (m + n)
ranges-join a zero n = ap (λ b. range_with_len b n) (add-zero a)
    ∙ ap (λ k. range_with_len a k) (sym (zero-add n))
ranges-join a (suc m) n =
    let count : suc m + n ≡ suc (m + n) = omega arith in
    grind (arith, ranges-join (a + 1) m n)

-- no more numbers pass than there are
pub few_filtered : (p : ℕ → Bool) (n : ℕ) → length (filter p (range_with_len 0 n)) ≤ n
few_filtered p n = grind (arith, length-filter, count_by-le-length, length-range_with_len)
