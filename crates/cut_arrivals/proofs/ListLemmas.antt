-- Lists of which each element is known.
use Rattle.std.proofs.Common.{◌≡◌, suc, ◌+◌, Bool, true, false, cond, ◌||◌, List, [], ◌∷◌, ◌++◌, filter}
use Rattle.std.proofs.Common.{length, take, drop, refl, ap, ◌∙◌, arith}
use Rattle.std.specs.List.{All, list_any, prefix_len}
use Rattle.std.proofs.lemmas.List.Elements.{All-head, All-tail}

pub tests_agree : {X : Type 0} (p q : X → Bool) (xs : List X) → All (λ x. p x ≡ q x) xs → list_any p xs ≡ list_any q xs
tests_agree p q [] all = refl
tests_agree p q (x ∷ xs) all =
    ap (λ b. b || list_any p xs) (All-head (λ x. p x ≡ q x) x xs all)
    ∙ ap (λ b. q x || b) (tests_agree p q xs (All-tail (λ x. p x ≡ q x) x xs all))

-- a filter leaves what passes a stricter test
pub list_any-filter : {X : Type 0} (p q : X → Bool) (xs : List X) → ((x : X) → p x ≡ true → q x ≡ true)
    → list_any p (filter q xs) ≡ list_any p xs
list_any-filter p q [] implied = refl
list_any-filter p q (x ∷ xs) implied =
    grind (arith, list_any-filter p q xs implied)

-- a list of which all pass, and one of which none does
pub prefix_of : {X : Type 0} (p : X → Bool) (xs ys : List X) → All (λ x. p x ≡ true) xs → All (λ y. p y ≡ false) ys
    → prefix_len p (xs ++ ys) ≡ length xs
prefix_of p [] [] all none = refl
prefix_of p [] (y ∷ ys) all none = ap (λ b. cond b (1 + prefix_len p ys) 0) (All-head (λ y. p y ≡ false) y ys none)
prefix_of p (x ∷ xs) ys all none =
    ap (λ b. cond b (1 + prefix_len p (xs ++ ys)) 0) (All-head (λ x. p x ≡ true) x xs all)
    ∙ ap (λ n. 1 + n) (prefix_of p xs ys (All-tail (λ x. p x ≡ true) x xs all) none)
    ∙ (let e : 1 + length xs ≡ suc (length xs) = omega arith in e)

pub take_joined : {X : Type 0} (xs ys : List X) → take (length xs) (xs ++ ys) ≡ xs
take_joined [] ys = refl
take_joined (x ∷ xs) ys = ap (λ zs. x ∷ zs) (take_joined xs ys)

pub drop_joined : {X : Type 0} (xs ys : List X) → drop (length xs) (xs ++ ys) ≡ ys
drop_joined [] ys = refl
drop_joined (x ∷ xs) ys = drop_joined xs ys
