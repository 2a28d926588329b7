-- The first number of a range that passes a test, and what is made of it.
use Rattle.std.proofs.Common.{◌≡◌, ℕ, zero, suc, ◌+◌, ◌<◌, ◌≤◌, Bool, true, false, cond, [], ◌∷◌, Option, Some, None}
use Rattle.std.proofs.Common.{MatchOption, option_map, refl, ap, sym, ◌∙◌, arith}
use Rattle.std.specs.List.{find, range_with_len}
use Rattle.std.specs.Option.{option_or}
use Rattle.std.proofs.lemmas.List.Folds.{find-append}
use Rattle.cut_lists.proofs.Ranges.{range_with_len_more}

-- none of n numbers from a on passes
abbrev pub NonePasses : (ℕ → Bool) → ℕ → ℕ → Type 0
NonePasses p a n = (i : ℕ) → a ≤ i → i < a + n → p i ≡ false

-- m is the first of them that does
pub record IsFirst (p : ℕ → Bool) (a n m : ℕ) : Type 0 where
  pub from : a ≤ m
  pub below : m < a + n
  pub passes : p m ≡ true
  pub least : (i : ℕ) → a ≤ i → i < m → p i ≡ false

-- what `find` gives of a range
pub found_first : (p : ℕ → Bool) (a n : ℕ) → MatchOption (find p (range_with_len a n)) (NonePasses p a n)
    (IsFirst p a n)
found_first p a zero = λ i low high. absurd (omega arith)
found_first p a (suc n) = grind (arith, found_first p (a + 1) n)

-- ---- of values that pass, place by place

module _ {S X : Type 0} (p : S → Bool) (f : S → ℕ → X) where
  -- what is made of the first of n places from 1 on whose value passes
  abbrev pub found : (ℕ → S) → ℕ → Option X
  found E n = option_map (λ m. f (E m) m) (find (λ m. p (E m)) (range_with_len 1 n))

  -- what is made of the value of place m, if it passes
  abbrev pub made_at : S → ℕ → Option X
  made_at T m = cond (p T) (Some (f T m)) None

  -- equal values give equal ones
  pub found-same : (E F : ℕ → S) (n : ℕ) → ((m : ℕ) → 1 ≤ m → m ≤ n → E m ≡ F m) → found E n ≡ found F n
  found-same E F n same = from 1 n (λ m low high. same m low (omega arith))
    where
      from : (a k : ℕ) → ((m : ℕ) → a ≤ m → m < a + k → E m ≡ F m)
          → option_map (λ m. f (E m) m) (find (λ m. p (E m)) (range_with_len a k))
          ≡ option_map (λ m. f (F m) m) (find (λ m. p (F m)) (range_with_len a k))
      from a zero equal = refl
      from a (suc k) equal =
          rw (equal a (omega arith) (omega arith))
          (either (p (F a)) _ _ (from (a + 1) k (λ m low high. equal m (omega arith) (omega arith))))
        where
          either : (b : Bool) (x y : Option ℕ) → option_map (λ m. f (E m) m) x ≡ option_map (λ m. f (F m) m) y
              → option_map (λ m. f (E m) m) (cond b (Some a) x) ≡ option_map (λ m. f (F m) m) (cond b (Some a) y)
          either true x y e = ap (λ T. Some (f T a)) (equal a (omega arith) (omega arith))
          either false x y e = e

  -- one place more counts where nothing was found before it
  pub found-more : (E : ℕ → S) (n : ℕ) → found E (n + 1) ≡ option_or (found E n) (made_at (E (n + 1)) (n + 1))
  found-more E n =
      ap (λ xs. option_map (λ m. f (E m) m) (find (λ m. p (E m)) xs)) (range_with_len_more 1 n (n + 1) (omega arith))
      ∙ ap (option_map (λ m. f (E m) m)) (find-append (λ m. p (E m)) (range_with_len 1 n) ((n + 1) ∷ []))
      ∙ either (find (λ m. p (E m)) (range_with_len 1 n)) (p (E (n + 1)))
    where
      either : (q : Option ℕ) (b : Bool) → option_map (λ m. f (E m) m) (option_or q (cond b (Some (n + 1)) None))
          ≡ option_or (option_map (λ m. f (E m) m) q) (cond b (Some (f (E (n + 1)) (n + 1))) None)
      either (Some m) b = refl
      either None true = refl
      either None false = refl

  -- F has the value of E's place b twice, so that what comes after it is made one place later
  pub found-repeat : (E F : ℕ → S) (b : ℕ) (delay : X → X) → 1 ≤ b
      → ((T : S) (m : ℕ) → m ≤ b → delay (f T m) ≡ f T m) → ((T : S) (m : ℕ) → b < m → delay (f T m) ≡ f T (m + 1))
      → ((m : ℕ) → 1 ≤ m → m ≤ b → F m ≡ E m) → ((m : ℕ) → b ≤ m → F (m + 1) ≡ E m)
      → (a : ℕ) → found F (a + b + 1) ≡ option_map delay (found E (a + b))
  found-repeat E F b delay some early late first later zero =
      let at : zero + b ≡ b = omega arith in
      rw at (
      found-more F b
      ∙ ap (λ q. option_or q (made_at (F (b + 1)) (b + 1))) (found-same F E b first)
      ∙ ap (λ T. option_or (found E b) (made_at T (b + 1))) (later b (omega arith))
      ∙ go (find (λ m. p (E m)) (range_with_len 1 b)) (found_first (λ m. p (E m)) 1 b))
    where
      go : (q : Option ℕ) → MatchOption q (NonePasses (λ m. p (E m)) 1 b) (IsFirst (λ m. p (E m)) 1 b)
          → option_or (option_map (λ m. f (E m) m) q) (made_at (E b) (b + 1))
          ≡ option_map delay (option_map (λ m. f (E m) m) q)
      go None none = ap (λ t. cond t (Some (f (E b) (b + 1))) None) (none b some (omega arith))
      go (Some m) is = ap Some (sym (early (E m) m (let w = is.below in omega arith)))
  found-repeat E F b delay some early late first later (suc a) =
      let n : ℕ = a + b + 1 in
      let at : suc a + b ≡ n = omega arith in
      rw at (
      found-more F n
      ∙ ap (λ q. option_or q (made_at (F (n + 1)) (n + 1))) (found-repeat E F b delay some early late first later a)
      ∙ ap (λ T. option_or (option_map delay (found E (a + b))) (made_at T (n + 1))) (later n (omega arith))
      ∙ delayed (found E (a + b)) (p (E n))
      ∙ ap (option_map delay) (sym (found-more E (a + b))))
    where
      delayed : (q : Option X) (t : Bool) → option_or (option_map delay q)
          (cond t (Some (f (E (a + b + 1)) (a + b + 1 + 1))) None)
          ≡ option_map delay (option_or q (cond t (Some (f (E (a + b + 1)) (a + b + 1))) None))
      delayed (Some x) t = refl
      delayed None false = refl
      delayed None true = ap Some (sym (late (E (a + b + 1)) (a + b + 1) (omega arith)))
