-- What the first elements of a list hold, where each element has its index.
use Rattle.std.proofs.Common.{◌≡◌, ℕ, suc, ◌+◌, ◌-◌, ◌<◌, ◌≤◌, ◌⊎◌, inl, inr, ◌&&◌, ◌||◌, Bool, true, false, List, []}
use Rattle.std.proofs.Common.{◌∷◌, take, length, get_or, nat_lt, refl, ap, sym, ◌∙◌, arith}
use Rattle.std.specs.List.{list_any}
use Rattle.std.proofs.Math.Seq.{take-nil}
use Rattle.cut_draws.proofs.Apart.{le_or_lt}

-- each element has its index, counted from a
abbrev pub Indexed : {X : Type 0} → (X → ℕ) → ℕ → List X → Type 0
Indexed {X} rank a xs = (i : ℕ) (d : X) → i < length xs → rank (get_or xs i d) ≡ a + i

indexed_rest : {X : Type 0} (rank : X → ℕ) (a : ℕ) (x : X) (xs : List X) → Indexed rank a (x ∷ xs)
    → Indexed rank (a + 1) xs
indexed_rest rank a x xs indexed = λ i d within. indexed (suc i) d (omega arith)
    ∙ (let e : a + suc i ≡ a + 1 + i = omega arith in e)

passes : (b : Bool) → (b && true) ≡ b
passes true = refl
passes false = refl

-- some element below n that passes: some of the first
pub any_before : {X : Type 0} (p : X → Bool) (rank : X → ℕ) (xs : List X) (a n : ℕ) → Indexed rank a xs
    → list_any (λ x. p x && nat_lt (rank x) n) xs ≡ list_any p (take (n - a) xs)
any_before p rank [] a n indexed = sym (ap (list_any p) (take-nil (n - a)))
any_before {X} p rank (x ∷ xs) a n indexed = by (any_before p rank xs (a + 1) n (indexed_rest rank a x xs indexed))
    (le_or_lt n a)
  where
    rest : Bool
    rest = list_any (λ y. p y && nat_lt (rank y) n) xs

    by : rest ≡ list_any p (take (n - (a + 1)) xs) → (n ≤ a) ⊎ (a < n) → ((p x && nat_lt (rank x) n) || rest)
        ≡ list_any p (take (n - a) (x ∷ xs))
    by later (inl past) =
        let here : rank x ≡ a + 0 = indexed 0 x (omega arith) in
        grind arith
    by later (inr more) =
        let here : rank x ≡ a + 0 = indexed 0 x (omega arith) in
        let one : n - a ≡ suc (n - (a + 1)) = omega arith in
        grind arith
