-- The greatest number of a list.
use Rattle.std.proofs.Common.{ℕ, zero, suc, ◌<◌, ◌≤◌, List, [], ◌∷◌, length, get_or, max, fold, arith}
use Rattle.std.specs.List.{All}
use Rattle.std.proofs.lemmas.List.Elements.{All-head, All-tail}

-- no greater than a bound of every number
pub fold_max-le : (a m : ℕ) (xs : List ℕ) → a ≤ m → All (λ x. x ≤ m) xs → fold max a xs ≤ m
fold_max-le a m [] low each = low
fold_max-le a m (x ∷ xs) low each =
    let here : x ≤ m = All-head (λ x. x ≤ m) x xs each in
    fold_max-le (max a x) m xs (omega arith) (All-tail (λ x. x ≤ m) x xs each)

-- no less than where it begins
pub le-fold_max : (a : ℕ) (xs : List ℕ) → a ≤ fold max a xs
le-fold_max a [] = omega arith
le-fold_max a (x ∷ xs) = omega (arith, le-fold_max (max a x) xs)

-- nor than any number
pub get_or-le-fold_max : (a : ℕ) (xs : List ℕ) (k d : ℕ) → k < length xs → get_or xs k d ≤ fold max a xs
get_or-le-fold_max a [] k d within = absurd (omega arith)
get_or-le-fold_max a (x ∷ xs) zero d within = omega (arith, le-fold_max (max a x) xs)
get_or-le-fold_max a (x ∷ xs) (suc k) d within = get_or-le-fold_max (max a x) xs k d (omega arith)
