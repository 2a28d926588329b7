-- Which pieces are lost, and how many are not.
use Rattle.std.proofs.Common.{◌≡◌, ◌+◌, ◌<◌, ℕ, Bool, true, false, not, cond, List, [], ◌∷◌, length, map}
use Rattle.std.proofs.Common.{set, get_or, count_by, refl, arith}
use Rattle.std.specs.Prelude.{nat_lt}
use Rattle.std.specs.List.{list_any}
use Rattle.std.proofs.lemmas.List.Sums.{sum_by-cons, sum_by-set, count_by-le-length}
use Rattle.std.proofs.lemmas.Bool.Decides.{nat_tests}
use Rattle.std.proofs.lemmas.List.{get_or_past}

-- one more is lost
pub one_lost : (xs : List Bool) (i : ℕ) → i < length xs → get_or xs i true ≡ false → count_by not (set xs i true) + 1
    ≡ count_by not xs
one_lost xs i low e = grind (arith, sum_by-set (λ (b : Bool). cond (not b) 1 0) xs i true true low)

-- some piece is lost where fewer are not
pub some_lost : (xs : List Bool) → nat_lt (count_by not xs) (length xs) ≡ list_any (λ is_lost. is_lost) xs
some_lost [] = refl
some_lost (true ∷ xs) = let few = count_by-le-length not xs in grind (arith, nat_tests)
some_lost (false ∷ xs) =
    let one = sum_by-cons (λ (b : Bool). cond (not b) 1 0) false xs in
    let rest = some_lost xs in
    grind (arith, nat_tests)

-- none is at first
pub none_lost : {X : Type 0} (xs : List X) → count_by not (map (λ x. false) xs) ≡ length xs
none_lost [] = refl
none_lost (x ∷ xs) = let rest = none_lost xs in let one = sum_by-cons (λ (b : Bool). cond (not b) 1 0) false
    (map (λ x. false) xs) in omega (arith, rest, one)

-- one is not, where it is found so
pub held_within : (xs : List Bool) (i : ℕ) → get_or xs i true ≡ false → i < length xs
held_within xs i e = grind (arith, get_or_past)
