-- How many elements pass a test, part by part.
use Rattle.std.proofs.lemmas.Grind.{common_steps}
use Rattle.std.proofs.Common.{◌≡◌, ℕ, zero, suc, ◌+◌, ◌<◌, Bool, true, false, not, cond, List, [], ◌∷◌, filter, length}
use Rattle.std.proofs.Common.{get_or, refl, arith}
use Rattle.std.specs.Prelude.{count_by, ◌≤◌, ◌&&◌}
use Rattle.std.proofs.lemmas.List.Sums.{sum_by-cons}

pub count_first : {X : Type 0} (p : X → Bool) (x : X) (xs : List X) → count_by p (x ∷ xs) ≡ cond (p x) 1 0
    + count_by p xs
count_first p x xs = sum_by-cons (λ y. cond (p y) 1 0) x xs

-- of those that pass t, some pass s and the others don't
pub count_parts : {X : Type 0} (s t : X → Bool) (xs : List X) → count_by t (filter s xs)
    + count_by (λ x. t x && not (s x)) xs ≡ count_by t xs
count_parts s t [] = refl
count_parts s t (x ∷ xs) =
    grind (arith, common_steps, count_parts s t xs)

-- an element passes or not
pub count_rest : {X : Type 0} (p : X → Bool) (xs : List X) → count_by p xs + count_by (λ x. not (p x)) xs ≡ length xs
count_rest p [] = refl
count_rest p (x ∷ xs) = grind (arith, common_steps, count_rest p xs)

pub bit_le : (a b : Bool) → (a ≡ true → b ≡ true) → cond a 1 0 ≤ cond b 1 0
bit_le true true implies = omega arith
bit_le true false implies = absurd (let bad : false ≡ true = implies refl in cc)
bit_le false true implies = omega arith
bit_le false false implies = omega arith

pub count_le : {X : Type 0} (s t : X → Bool) (xs : List X) → ((x : X) → s x ≡ true → t x ≡ true) → count_by s xs
    ≤ count_by t xs
count_le s t [] implies = omega arith
count_le s t (x ∷ xs) implies =
    grind (arith, common_steps, count_le s t xs implies)

-- a test that another implies, and that some element fails which passes the other, is passed by fewer
pub count_less : {X : Type 0} (s t : X → Bool) (xs : List X) (k : ℕ) (d : X) → ((x : X) → s x ≡ true → t x ≡ true) → k
    < length xs → s (get_or xs k d) ≡ false → t (get_or xs k d) ≡ true → count_by s xs < count_by t xs
count_less s t [] k d implies lt fails passes = absurd (omega arith)
count_less s t (x ∷ xs) zero d implies lt fails passes =
    grind (arith, common_steps, count_le)
count_less s t (x ∷ xs) (suc k) d implies lt fails passes =
    grind (arith, common_steps, count_less s t xs k d implies)
