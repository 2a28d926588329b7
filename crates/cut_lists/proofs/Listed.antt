-- Lists of exactly those numbers below n that pass a test.
use Rattle.std.proofs.Common.{◌≡◌, inl, inr, ℕ, ◌<◌, ◌≤◌, Bool, true, false, cond, ◌==◌, ◌&&◌, List, [], ◌∷◌}
use Rattle.std.proofs.Common.{◌++◌, All, not, nat_lt, length, get_or, refl, ap, sym, subst, ◌∙◌, arith, length-append}
use Rattle.std.specs.List.{list_any, IsDistinct}
use Rattle.std.proofs.Math.Bool.{or-false}
use Rattle.std.proofs.lemmas.Bool.{eq-eqb, eqb-true, and_right, and_parts}
use Rattle.std.proofs.lemmas.Bool.{or_cases, ltb-true}
use Rattle.std.proofs.lemmas.List.Folds.{list_any-append, list_any_at}
use Rattle.std.proofs.lemmas.Map.Keys.{IsDistinct-push, IsDistinct-from_apart}
use Rattle.std.proofs.lemmas.Map.Steps.{length-le_from_distinct_below}
use Rattle.cut_lists.proofs.Counts.{DifferAt}

abbrev pub IsListed : (ℕ → Bool) → ℕ → List ℕ → Type 0
IsListed p n xs = (q : ℕ) → list_any (λ k. q == k) xs ≡ (nat_lt q n && p q)

-- each of them is below n
pub listed-below : (p : ℕ → Bool) (n : ℕ) (xs : List ℕ) (q : ℕ) → IsListed p n xs → list_any (λ k. q == k) xs ≡ true → q
    < n
listed-below p n xs q listed e = ltb-true _ _ (and_parts _ _ (sym (listed q) ∙ e)).0

pub listed-all : (p : ℕ → Bool) (n : ℕ) (xs : List ℕ) → IsListed p n xs → All (λ q. q < n) xs
listed-all p n xs listed k d low =
    listed-below p n xs (get_or xs k d) listed (list_any_at (λ q. get_or xs k d == q) xs k d low (eq-eqb _ _ refl))

-- so that they are few, where they are different
pub listed-few : (p : ℕ → Bool) (n : ℕ) (xs : List ℕ) → IsDistinct ◌==◌ xs → IsListed p n xs → length xs ≤ n
listed-few p n xs distinct listed = length-le_from_distinct_below xs n distinct (λ q e. listed-below p n xs q listed e)

-- no number is listed where none passes
pub IsListed-empty : (p : ℕ → Bool) (n : ℕ) (xs : List ℕ) → xs ≡ [] → ((q : ℕ) → p q ≡ false) → IsListed p n xs
IsListed-empty p n xs e none q = ap (λ ys. list_any (λ k. q == k) ys) e ∙ sym (and_right (nat_lt q n) _ (none q))

pub IsDistinct-empty : (xs : List ℕ) → xs ≡ [] → IsDistinct ◌==◌ xs
IsDistinct-empty xs e = subst (IsDistinct ◌==◌) (sym e)
    (IsDistinct-from_apart ◌==◌ [] (λ i j d _ low. absurd (omega arith)))

-- a number is pushed where it did not pass before
pub IsDistinct-listed : (p : ℕ → Bool) (n : ℕ) (xs : List ℕ) (s : ℕ) (is_new : Bool) → IsDistinct ◌==◌ xs
    → IsListed p n xs → is_new ≡ not (p s) → IsDistinct ◌==◌ (cond is_new (xs ++ s ∷ []) xs)
IsDistinct-listed p n xs s true distinct listed is = grind (arith, IsDistinct-push)
IsDistinct-listed p n xs s false distinct listed is = distinct

-- there is room for it
pub listed-room : (p : ℕ → Bool) (n : ℕ) (xs : List ℕ) (s : ℕ) → IsDistinct ◌==◌ xs → IsListed p n xs → s < n → p s
    ≡ false → length xs < n
listed-room p n xs s distinct listed inside none =
    let few : length (xs ++ s ∷ []) ≤ n = length-le_from_distinct_below (xs ++ s ∷ []) n
    (IsDistinct-listed p n xs s true distinct listed (sym (ap not none))) (λ q e.
    elim (or_cases _ _ (sym (list_any-append (λ k. q == k) xs (s ∷ [])) ∙ e)) [
      | inl old ↦ listed-below p n xs q listed old
      | inr at ↦ (let same : q ≡ s = eqb-true _ _ (sym (or-false (q == s)) ∙ at) in omega arith)
    ]) in
    omega (arith, length-append xs (s ∷ []))

-- and then it is listed too, where it passes now
pub IsListed-push : (p f : ℕ → Bool) (n : ℕ) (xs : List ℕ) (s : ℕ) (is_new : Bool) → DifferAt p f s → f s ≡ true → s < n
    → IsListed p n xs → is_new ≡ not (p s) → IsListed f n (cond is_new (xs ++ s ∷ []) xs)
IsListed-push p f n xs s is_new differ passes inside listed is q = grind (arith, list_any-append)
