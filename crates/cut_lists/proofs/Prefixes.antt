-- The prefix of a list up to the first element that fails a test.
use Rattle.std.proofs.Common.{◌≡◌, ℕ, zero, suc, ◌+◌, ◌<◌, ◌≤◌, Bool, true, false, cond, List, [], ◌∷◌, ◌++◌}
use Rattle.std.proofs.Common.{get_or}
use Rattle.std.proofs.Common.{length, take, drop, refl, sym, ap, ◌∙◌, arith, length-append}
use Rattle.std.specs.List.{flat_map, list_all, take_while}
use Rattle.std.proofs.lemmas.List.Sums.{take_while-cons}

-- by whether the first element passes
prefix_by : {X : Type 0} (p : X → Bool) (x : X) (xs : List X) (b : Bool) → p x ≡ b
    → take_while p (x ∷ xs) ≡ cond b (x ∷ take_while p xs) []
prefix_by p x xs b is = take_while-cons p x xs ∙ ap (λ c. cond c (x ∷ take_while p xs) []) is

-- what passes at the beginning stays there
pub take_while-prefix : {X : Type 0} (p : X → Bool) (d : X) (xs : List X) (n : ℕ) → n ≤ length xs
    → ((k : ℕ) → k < n → p (get_or xs k d) ≡ true) → take_while p xs ≡ take n xs ++ take_while p (drop n xs)
take_while-prefix p d xs zero few passes = refl
take_while-prefix p d [] (suc n) few passes = absurd (omega arith)
take_while-prefix p d (x ∷ xs) (suc n) few passes =
    prefix_by p x xs true (passes 0 (omega arith))
    ∙ ap (λ ys. x ∷ ys) (take_while-prefix p d xs n (omega arith) (λ k low. passes (suc k) (omega arith)))

-- where all passes the prefix is the whole
pub whole_prefix : {X : Type 0} (p : X → Bool) (xs : List X) → list_all p xs ≡ true → take_while p xs ≡ xs
whole_prefix p [] all = refl
whole_prefix {X} p (x ∷ xs) all =
    grind (arith, prefix_by p x xs true, whole_prefix p xs)

-- two words that agree where a test passes, on the prefix that passes
pub flat_map_prefix : {X Y : Type 0} (f g : X → List Y) (p : X → Bool) (xs : List X)
    → ((x : X) → p x ≡ true → f x ≡ g x) → flat_map f (take_while p xs) ≡ flat_map g (take_while p xs)
flat_map_prefix f g p [] same = refl
flat_map_prefix {X} {Y} f g p (x ∷ xs) same = go (p x) refl (flat_map_prefix f g p xs same)
  where
    go : (b : Bool) → p x ≡ b → flat_map f (take_while p xs) ≡ flat_map g (take_while p xs)
        → flat_map f (take_while p (x ∷ xs)) ≡ flat_map g (take_while p (x ∷ xs))
    go true is rest =
        grind (arith, prefix_by p x xs true is)
    go false is rest =
        ap (flat_map f) (prefix_by p x xs false is) ∙ sym (ap (flat_map g) (prefix_by p x xs false is))

-- the prefix grows with what passes
pub longer_prefix : {X Y : Type 0} (f : X → List Y) (p q : X → Bool) (xs : List X)
    → ((x : X) → p x ≡ true → q x ≡ true)
    → length (flat_map f (take_while p xs)) ≤ length (flat_map f (take_while q xs))
longer_prefix f p q [] more = omega arith
longer_prefix {X} {Y} f p q (x ∷ xs) more = go (p x) refl (longer_prefix f p q xs more)
  where
    long : (r : X → Bool) → r x ≡ true
        → length (flat_map f (take_while r (x ∷ xs))) ≡ length (f x) + length (flat_map f (take_while r xs))
    long r is =
        grind (arith, length-append)

    go : (b : Bool) → p x ≡ b → length (flat_map f (take_while p xs)) ≤ length (flat_map f (take_while q xs))
        → length (flat_map f (take_while p (x ∷ xs))) ≤ length (flat_map f (take_while q (x ∷ xs)))
    go true is rest = omega (arith, rest, long p is, long q (more x is))
    go false is rest = omega (arith, ap (λ ys. length (flat_map f ys)) (prefix_by p x xs false is))
