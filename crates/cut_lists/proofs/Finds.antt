-- The first element of a list that passes a test.
use Rattle.std.proofs.Common.{◌≡◌, Bool, true, false, cond, List, [], ◌∷◌, ◌++◌, Option, Some, None, option_map, refl}
use Rattle.std.proofs.Common.{ap}
use Rattle.std.specs.Prelude.{All, IsSome, find}
use Rattle.std.proofs.lemmas.List.Elements.{All-head, All-tail}

pub IsSome-from_option_map : {X Y : Type 0} (f : X → Y) (o : Option X) → IsSome (option_map f o) → IsSome o
IsSome-from_option_map f None some = cc
IsSome-from_option_map f (Some x) some = refl

-- what is found by what E says of each element is found in a longer list too, where F says the same of the first ones
pub find-longer : {X Y D : Type 0} (p : D → Bool) (f : X → D → Y) (E F : X → D) (xs ys : List X)
    → All (λ x. E x ≡ F x) xs → IsSome (find (λ x. p (E x)) xs)
    → option_map (λ x. f x (E x)) (find (λ x. p (E x)) xs)
    ≡ option_map (λ x. f x (F x)) (find (λ x. p (F x)) (xs ++ ys))
find-longer p f E F [] ys same found = cc
find-longer {X} {Y} p f E F (x ∷ xs) ys same found =
    let here : E x ≡ F x = All-head (λ y. E y ≡ F y) x xs same in
    rw (← here) (by here (p (E x)) found (find-longer p f E F xs ys (All-tail (λ y. E y ≡ F y) x xs same)))
  where
    first : Bool → Option X → Option X
    first b rest = cond b (Some x) rest

    by : E x ≡ F x → (b : Bool) → IsSome (first b (find (λ y. p (E y)) xs))
        → (IsSome (find (λ y. p (E y)) xs)
        → option_map (λ y. f y (E y)) (find (λ y. p (E y)) xs)
        ≡ option_map (λ y. f y (F y)) (find (λ y. p (F y)) (xs ++ ys)))
        → option_map (λ y. f y (E y)) (first b (find (λ y. p (E y)) xs))
        ≡ option_map (λ y. f y (F y)) (first b (find (λ y. p (F y)) (xs ++ ys)))
    by here true some rest = ap (λ D. Some (f x D)) here
    by here false some rest = rest some
