-- The characters of a path, sent one after another.
use Rattle.std.proofs.Common.{◌≡◌, ◌<◌, ◌++◌, ◌∷◌, [], ℕ, zero, suc, List, length, get_or, take, drop, sym, ap, arith, ◌∙◌}
use Rattle.std.proofs.Common.{append_assoc, append-nil}
use Rattle.std.specs.List.{flat_map}

-- what some first items give, and then the next
pub flat_map_next : (f : ℕ → List ℕ) (xs : List ℕ) (n x : ℕ) → (n < length xs) × (x ≡ get_or xs n x)
    → flat_map f (take (suc n) xs) ≡ flat_map f (take n xs) ++ f x
flat_map_next f [] n x (low, is) = absurd (omega (arith, low))
flat_map_next f (y ∷ xs) zero x (low, is) = append-nil (f y) ∙ ap f (sym is)
flat_map_next f (y ∷ xs) (suc n) x (low, is) =
    ap (λ (rest : List ℕ). f y ++ rest) (flat_map_next f xs n x (omega (arith, low), is))
    ∙ sym (append_assoc (f y) (flat_map f (take n xs)) (f x))

-- what all give: the first, one, and those after it
pub flat_map_around : (f : ℕ → List ℕ) (xs : List ℕ) (n x : ℕ) → (n < length xs) × (x ≡ get_or xs n x)
    → flat_map f (take n xs) ++ (f x ++ flat_map f (drop (suc n) xs)) ≡ flat_map f xs
flat_map_around f [] n x (low, is) = absurd (omega (arith, low))
flat_map_around f (y ∷ xs) zero x (low, is) = ap (λ (z : ℕ). f z ++ flat_map f xs) is
flat_map_around f (y ∷ xs) (suc n) x (low, is) =
    append_assoc (f y) (flat_map f (take n xs)) (f x ++ flat_map f (drop (suc n) xs))
    ∙ ap (λ (rest : List ℕ). f y ++ rest) (flat_map_around f xs n x (omega (arith, low), is))
