-- What is in a list, and lists in order, by recursion.
use Rattle.std.proofs.Common.{◌≡◌, ℕ, zero, suc, ◌<◌, ◌⊎◌, inl, inr, List, [], ◌∷◌, ◌++◌, map, length, get_or, Bool}
use Rattle.std.proofs.Common.{true, false, cond, refl, ap, arith}
use Rattle.std.proofs.lemmas.Bool.{and_parts}
use Rattle.std.specs.Bool.{⊤}
use Rattle.std.specs.List.{AllByRecursion, AllPairs, Contains, flat_map}
use Rattle.cut_plan.specs.Plan.{is_rising}
use Rattle.cut_plan.proofs.Every.{every-append, every-flat_map, every-get_or}

-- ---- what is in a list

abbrev pub IsIn : {X : Type 0} → X → List X → Type 0
IsIn x [] = ⊥
IsIn x (y ∷ ys) = (y ≡ x) ⊎ IsIn x ys

in_at_place : {X : Type 0} (xs : List X) (x : X) (k : ℕ) → k < length xs → get_or xs k x ≡ x → IsIn x xs
in_at_place [] x k lt e = absurd (omega arith)
in_at_place (y ∷ ys) x zero lt e = inl e
in_at_place (y ∷ ys) x (suc k) lt e = inr (in_at_place ys x k (omega arith) e)

pub in_from_contains : {X : Type 0} (xs : List X) (x : X) → Contains xs x → IsIn x xs
in_from_contains xs x h = in_at_place xs x h.0 h.1 h.2

pub contains_from_in : {X : Type 0} (xs : List X) (x : X) → IsIn x xs → Contains xs x
contains_from_in [] x h = absurd h
contains_from_in (y ∷ ys) x (inl e) = (0, omega arith, e)
contains_from_in (y ∷ ys) x (inr h) = let rest = contains_from_in ys x h in let below = rest.1
    in (suc rest.0, omega arith, rest.2)

in-append : {X : Type 0} (xs ys : List X) (x : X) → IsIn x (xs ++ ys) → IsIn x xs ⊎ IsIn x ys
in-append [] ys x h = inr h
in-append (z ∷ zs) ys x (inl e) = inl (inl e)
in-append (z ∷ zs) ys x (inr h) = elim (in-append zs ys x h) [ inl a ↦ inl (inr a) | inr b ↦ inr b ]

in_left : {X : Type 0} (xs ys : List X) (x : X) → IsIn x xs → IsIn x (xs ++ ys)
in_left [] ys x h = absurd h
in_left (z ∷ zs) ys x (inl e) = inl e
in_left (z ∷ zs) ys x (inr h) = inr (in_left zs ys x h)

in_right : {X : Type 0} (xs ys : List X) (x : X) → IsIn x ys → IsIn x (xs ++ ys)
in_right [] ys x h = h
in_right (z ∷ zs) ys x h = inr (in_right zs ys x h)

pub in-flat_map : {X Y : Type 0} (f : X → List Y) (xs : List X) (y : Y) → IsIn y (flat_map f xs) → (x : X) × IsIn x xs
    × IsIn y (f x)
in-flat_map f [] y h = absurd h
in-flat_map f (x ∷ xs) y h =
    elim (in-append (f x) (flat_map f xs) y h) [
      | inl a ↦ (x, inl refl, a)
      | inr b ↦ let rest = in-flat_map f xs y b in (rest.0, inr rest.1, rest.2)
    ]

pub into-flat_map : {X Y : Type 0} (f : X → List Y) (xs : List X) (x : X) (y : Y) → IsIn x xs → IsIn y (f x)
    → IsIn y (flat_map f xs)
into-flat_map f [] x y h k = absurd h
into-flat_map f (z ∷ zs) x y (inl e) k = in_left (f z) (flat_map f zs) y (rw e k)
into-flat_map f (z ∷ zs) x y (inr h) k = in_right (f z) (flat_map f zs) y (into-flat_map f zs x y h k)

pub in-map : {X Y : Type 0} (f : X → Y) (xs : List X) (y : Y) → IsIn y (map f xs) → (x : X) × IsIn x xs × (f x ≡ y)
in-map f [] y h = absurd h
in-map f (x ∷ xs) y (inl e) = (x, inl refl, e)
in-map f (x ∷ xs) y (inr h) = let rest = in-map f xs y h in (rest.0, inr rest.1, rest.2)

pub into-map : {X Y : Type 0} (f : X → Y) (xs : List X) (x : X) → IsIn x xs → IsIn (f x) (map f xs)
into-map f [] x h = absurd h
into-map f (z ∷ zs) x (inl e) = inl (ap f e)
into-map f (z ∷ zs) x (inr h) = inr (into-map f zs x h)

pub in-cond : {X : Type 0} (b : Bool) (xs : List X) (x : X) → IsIn x (cond b xs []) → (b ≡ true) × IsIn x xs
in-cond true xs x h = (refl, h)
in-cond false xs x h = absurd h

-- ---- lists in order

-- R holds of each element and each later one
abbrev pub IsAscending : {X : Type 0} → (X → X → Type 0) → List X → Type 0
IsAscending R [] = ⊤
IsAscending R (x ∷ xs) = AllByRecursion (R x) xs × IsAscending R xs

pub pairs_from_ascending : {X : Type 0} (R : X → X → Type 0) (xs : List X) → IsAscending R xs → AllPairs R xs
pairs_from_ascending R [] h i j d before within = absurd (omega arith)
pairs_from_ascending R (x ∷ xs) h i zero d before within = absurd (omega arith)
pairs_from_ascending R (x ∷ xs) h zero (suc j) d before within = every-get_or (R x) xs j d h.0 (omega arith)
pairs_from_ascending R (x ∷ xs) h (suc i) (suc j) d before within = pairs_from_ascending R xs h.1 i j d (omega arith)
    (omega arith)

pub every-weaker : {X : Type 0} (P Q : X → Type 0) → ((x : X) → P x → Q x) → (xs : List X) → AllByRecursion P xs
    → AllByRecursion Q xs
every-weaker P Q step [] h = tt
every-weaker P Q step (x ∷ xs) h = (step x h.0, every-weaker P Q step xs h.1)

pub rising_ascends : (xs : List ℕ) → is_rising xs ≡ true → IsAscending (λ x y. x < y) xs
rising_ascends [] h = tt
rising_ascends (x ∷ []) h = (tt, tt)
rising_ascends (x ∷ y ∷ rest) h =
    grind (arith, and_parts, every-weaker, rising_ascends (y ∷ rest))

ascending-append : {X : Type 0} (R : X → X → Type 0) (xs ys : List X) → IsAscending R xs → IsAscending R ys
    → AllByRecursion (λ x. AllByRecursion (R x) ys) xs → IsAscending R (xs ++ ys)
ascending-append R [] ys h k across = k
ascending-append R (x ∷ xs) ys h k across = grind (arith, every-append, ascending-append R xs ys h.1 k across.1)

later-map : {X Y : Type 0} (R : X → X → Type 0) (S : Y → Y → Type 0) (f : X → Y) → ((x y : X) → R x y → S (f x) (f y))
    → (x : X) (ys : List X) → AllByRecursion (R x) ys → AllByRecursion (S (f x)) (map f ys)
later-map R S f step x [] h = tt
later-map R S f step x (y ∷ ys) h = (step x y h.0, later-map R S f step x ys h.1)

pub ascending-map : {X Y : Type 0} (R : X → X → Type 0) (S : Y → Y → Type 0) (f : X → Y)
    → ((x y : X) → R x y → S (f x) (f y)) → (xs : List X) → IsAscending R xs → IsAscending S (map f xs)
ascending-map R S f step [] h = tt
ascending-map R S f step (x ∷ xs) h = (later-map R S f step x xs h.0, ascending-map R S f step xs h.1)

pub ascending-cond : {X : Type 0} (R : X → X → Type 0) (b : Bool) (xs : List X) → IsAscending R xs
    → IsAscending R (cond b xs [])
ascending-cond R true xs h = h
ascending-cond R false xs h = tt

-- blocks in order, of which each has its own key
pub ascending-flat_map : {Y : Type 0} (R : Y → Y → Type 0) (S : Y → Type 0) (key : Y → ℕ) (f : ℕ → List Y)
    → ((c d : Y) → S c → S d → key c < key d → R c d)
    → ((x : ℕ) → AllByRecursion (λ c. (key c ≡ x) × S c) (f x)) → ((x : ℕ) → IsAscending R (f x)) → (xs : List ℕ)
    → IsAscending (λ x y. x < y) xs → IsAscending R (flat_map f xs)
ascending-flat_map R S key f apart keyed within [] h = tt
ascending-flat_map R S key f apart keyed within (x ∷ xs) h =
    ascending-append R (f x) (flat_map f xs) (within x) (ascending-flat_map R S key f apart keyed within xs h.1)
    (every-weaker (λ c. (key c ≡ x) × S c) (λ c. AllByRecursion (R c) (flat_map f xs)) (λ c known.
    every-flat_map (λ y. x < y) (R c) f (λ y before.
    every-weaker (λ d. (key d ≡ y) × S d) (R c) (λ d other.
    let first : key c ≡ x = known.0 in
    let second : key d ≡ y = other.0 in
    apart c d known.1 other.1 (omega arith)) (f y) (keyed y)) xs h.0) (f x) (keyed x))
