-- What holds of each element of a list, through maps and nested maps.
use Rattle.std.proofs.Common.{◌≡◌, ℕ, zero, suc, ◌≤◌, List, [], ◌∷◌, ◌++◌, map, max, Bool, true, false, cond, length}
use Rattle.std.proofs.Common.{get_or, ◌<◌, refl, arith}
use Rattle.std.proofs.lemmas.Bool.{and_parts}
use Rattle.std.specs.List.{AllByRecursion, flat_map, list_all, fold}

pub every-append : {X : Type 0} (P : X → Type 0) (xs ys : List X) → AllByRecursion P xs → AllByRecursion P ys
    → AllByRecursion P (xs ++ ys)
every-append P [] ys h k = k
every-append P (x ∷ xs) ys h k = (h.0, every-append P xs ys h.1 k)

pub every-map : {X Y : Type 0} (P : X → Type 0) (Q : Y → Type 0) (f : X → Y) → ((x : X) → P x → Q (f x)) → (xs : List X)
    → AllByRecursion P xs → AllByRecursion Q (map f xs)
every-map P Q f step [] h = tt
every-map P Q f step (x ∷ xs) h = (step x h.0, every-map P Q f step xs h.1)

pub every-flat_map : {X Y : Type 0} (P : X → Type 0) (Q : Y → Type 0) (f : X → List Y)
    → ((x : X) → P x → AllByRecursion Q (f x)) → (xs : List X) → AllByRecursion P xs → AllByRecursion Q (flat_map f xs)
every-flat_map P Q f step [] h = tt
every-flat_map P Q f step (x ∷ xs) h = every-append Q (f x) (flat_map f xs) (step x h.0)
    (every-flat_map P Q f step xs h.1)

pub every-cond : {X : Type 0} (P : X → Type 0) (b : Bool) (xs : List X) → (b ≡ true → AllByRecursion P xs)
    → AllByRecursion P (cond b xs [])
every-cond P true xs h = h refl
every-cond P false xs h = tt

pub every-always : {X : Type 0} (P : X → Type 0) → ((x : X) → P x) → (xs : List X) → AllByRecursion P xs
every-always P step [] = tt
every-always P step (x ∷ xs) = (step x, every-always P step xs)

pub every-list_all : {X : Type 0} (p : X → Bool) (P : X → Type 0) → ((x : X) → p x ≡ true → P x) → (xs : List X)
    → list_all p xs ≡ true → AllByRecursion P xs
every-list_all p P step [] h = tt
every-list_all p P step (x ∷ xs) h = let parts = and_parts (p x) (list_all p xs) h
    in (step x parts.0, every-list_all p P step xs parts.1)

pub every-both : {X : Type 0} (P Q : X → Type 0) (xs : List X) → AllByRecursion P xs → AllByRecursion Q xs
    → AllByRecursion (λ x. P x × Q x) xs
every-both P Q [] h k = tt
every-both P Q (x ∷ xs) h k = ((h.0, k.0), every-both P Q xs h.1 k.1)

pub every-get_or : {X : Type 0} (P : X → Type 0) (xs : List X) (i : ℕ) (d : X) → AllByRecursion P xs → i < length xs
    → P (get_or xs i d)
every-get_or P [] i d h lt = absurd (omega arith)
every-get_or P (y ∷ ys) zero d h lt = h.0
every-get_or P (y ∷ ys) (suc i) d h lt = every-get_or P ys i d h.1 (omega arith)

-- the greatest number of a list is at least each
pub every_below_fold : (a : ℕ) (xs : List ℕ) → (a ≤ fold max a xs) × AllByRecursion (λ x. x ≤ fold max a xs) xs
every_below_fold a [] = (omega arith, tt)
every_below_fold a (x ∷ xs) =
    grind (arith, every_below_fold (max a x) xs)
