-- How tests that exclude each other, or follow from each other, are counted.
use Rattle.std.proofs.Common.{◌≡◌, ◌≢◌, ℕ, zero, suc, ◌+◌, ◌<◌, ◌≤◌, Bool, true, false, cond, not, List, [], ◌∷◌}
use Rattle.std.proofs.Common.{length, filter, get_or, inl, inr, refl, sym, ap, ◌∙◌, arith, zero-add}
use Rattle.cut_laws.proofs.Words.{count_by, range_with_len, ◌&&◌, ◌==◌}
use Rattle.std.proofs.lemmas.Bool.{and_parts, both_ways, not-true, cases_lt, cases_Bool, eq-eqb, eqb-true}
use Rattle.std.proofs.lemmas.Bool.{false_from_ne_true, lt-ltb, ltb-true}
use Rattle.std.proofs.lemmas.List.FromFn.{get_or-range_with_len, length-range_with_len}
use Rattle.std.proofs.lemmas.List.Sums.{count_by-le-length, length-filter, sum_by-cons}
use Rattle.cut_lists.proofs.Counts.{list_any-count_by}
use Rattle.cut_lists.proofs.Parts.{count_less, count_parts}
use Rattle.cut_lists.proofs.Ranges.{All-range_with_len, PassesAt, list_any_passing, passing}
use Rattle.cut_lists.proofs.Ranks.{count_by_none}

-- a truth value as a number
abbrev pub bit : Bool → ℕ
bit b = cond {A = ℕ} b 1 0

-- ---- tests on the elements of one list

-- each element passes at most one of three
pub three_apart : {X : Type 0} (p q r : X → Bool) (xs : List X)
    → ((x : X) → bit (p x) + bit (q x) + bit (r x) ≤ 1)
    → count_by p xs + count_by q xs + count_by r xs ≤ length xs
three_apart p q r [] apart = omega arith
three_apart p q r (x ∷ xs) apart = search (arith, sum_by-cons, three_apart p q r xs apart)

-- each passes one of four
pub four_cover : {X : Type 0} (p q r s : X → Bool) (xs : List X)
    → ((x : X) → 1 ≤ bit (p x) + bit (q x) + bit (r x) + bit (s x))
    → length xs ≤ count_by p xs + count_by q xs + count_by r xs + count_by s xs
four_cover p q r s [] cover = omega arith
four_cover p q r s (x ∷ xs) cover = search (arith, sum_by-cons, four_cover p q r s xs cover)

-- each passes one of two
pub two_split : {X : Type 0} (p q : X → Bool) (xs : List X) → ((x : X) → bit (p x) + bit (q x) ≡ 1)
    → count_by p xs + count_by q xs ≡ length xs
two_split p q [] split = refl
two_split p q (x ∷ xs) split = search (arith, sum_by-cons, two_split p q xs split)

-- each that passes one passes one of two others
pub into_two : {X : Type 0} (p q r : X → Bool) (xs : List X) → ((x : X) → bit (p x) ≤ bit (q x) + bit (r x))
    → count_by p xs ≤ count_by q xs + count_by r xs
into_two p q r [] into = omega arith
into_two p q r (x ∷ xs) into = search (arith, sum_by-cons, into_two p q r xs into)

-- none passes
pub none_counted : {X : Type 0} (p : X → Bool) (xs : List X) → ((x : X) → p x ≡ false) → count_by p xs ≡ 0
none_counted p xs none = count_by_none p xs (λ i x _. none _)

-- ---- tests on the first numbers

-- where more pass one test than another, some number passes the one alone
pub gained : (p q : ℕ → Bool) (n : ℕ) → count_by p (range_with_len 0 n) < count_by q (range_with_len 0 n)
    → (i : ℕ) × PassesAt (λ j. q j && not (p j)) 0 n i
gained p q n more =
    let xs : List ℕ = range_with_len 0 n in
    let rest : ℕ → Bool = λ j. q j && not (p j) in
    let some : 0 < count_by rest xs =
    omega (arith, more, count_parts p q xs, count_by-le-length q (filter p xs), length-filter p xs) in
    passing rest 0 n (list_any-count_by rest xs ∙ lt-ltb 0 (count_by rest xs) some)

-- a number is counted once at most
once : (m a n : ℕ) → count_by (λ i. i == m) (range_with_len a n) ≤ 1
once m a zero = omega arith
once m a (suc n) = elim (cases_Bool (a == m)) [
  | inl is ↦ (
      let same : a ≡ m = eqb-true a m is in
      let others = count_by_none (λ i. i == m) (range_with_len (a + 1) n)
      (All-range_with_len (λ i. (i == m) ≡ false) (a + 1) n
      (λ i after _. false_from_ne_true (i == m) (λ e. omega (arith, same, after, eqb-true i m e)))) in
      omega (arith, others, sum_by-cons (λ i. bit (i == m)) a (range_with_len (a + 1) n), bit_le (a == m)))
  | inr differs ↦ grind (arith, once m (a + 1) n)
]
  where
    bit_le : (b : Bool) → bit b ≤ 1
    bit_le true = omega arith
    bit_le false = omega arith

-- where two pass, one passes that is not a given one
pub another : (p : ℕ → Bool) (n m : ℕ) → 2 ≤ count_by p (range_with_len 0 n)
    → (i : ℕ) × PassesAt (λ j. p j && not (j == m)) 0 n i
another p n m two = gained (λ i. i == m) p n (omega (arith, two, once m 0 n))

-- and two numbers that pass are two
pub two_pass : (p : ℕ → Bool) (n a b : ℕ) → a < n → b < n → a ≢ b → p a ≡ true → p b ≡ true
    → 2 ≤ count_by p (range_with_len 0 n)
two_pass p n a b below-a below-b differ is-a is-b =
    let xs : List ℕ = range_with_len 0 n in
    let one : ℕ → Bool = λ i. i == a in
    let first = list_any_passing one 0 n a (omega arith) (omega (arith, below-a)) (eq-eqb a a refl) in
    let at : get_or xs b 0 ≡ b = get_or-range_with_len 0 n b 0 below-b ∙ zero-add b in
    let other = false_from_ne_true (b == a) (λ e. differ (sym (eqb-true b a e))) in
    let less = count_less one p xs b 0 (λ i e. ap p (eqb-true i a e) ∙ is-a)
    (omega (arith, below-b, length-range_with_len 0 n)) (ap one at ∙ other) (ap p at ∙ is-b) in
    omega (arith, less, ltb-true 0 _ (sym (list_any-count_by one xs) ∙ first))

-- where the numbers that pass one test and not another are equal, one more passes it at most
pub one_more : (p q : ℕ → Bool) (n : ℕ)
    → ((i other : ℕ) → i < n → other < n → q i && not (p i) ≡ true → q other && not (p other) ≡ true → i ≡ other)
    → count_by q (range_with_len 0 n) ≤ count_by p (range_with_len 0 n) + 1
one_more p q n alone =
    let xs : List ℕ = range_with_len 0 n in
    let rest : ℕ → Bool = λ j. q j && not (p j) in
    let within : count_by q xs ≤ count_by p xs + count_by rest xs =
    omega (arith, count_parts p q xs, count_by-le-length q (filter p xs), length-filter p xs) in
    elim (cases_lt 1 (count_by rest xs)) [
      | inl two ↦ (
          let first = another rest n 0 (omega (arith, two)) in
          let second = another rest n first.0 (omega (arith, two)) in
          let is = and_parts (rest first.0) (not (first.0 == 0)) first.1.passes in
          let differs = and_parts (rest second.0) (not (second.0 == first.0)) second.1.passes in
          absurd (both_ways _ (not-true _ differs.1) (eq-eqb second.0 first.0
          (alone second.0 first.0 (omega (arith, second.1.below)) (omega (arith, first.1.below)) differs.0 is.0))))
      | inr one ↦ omega (arith, one, within)
    ]
