-- In a list that is sorted by a total order and has no equal elements, the index of an element is
-- the number of lesser ones.
use Rattle.std.proofs.Common.{◌≡◌, ℕ, ◌+◌, ◌-◌, ◌<◌, ◌≤◌, Bool, true, false, List, [], ◌∷◌, length}
use Rattle.std.proofs.Common.{get_or, take, drop, refl, ap, ◌∙◌, arith, cond}
use Rattle.std.specs.declared.cmp.Ordering.{Ordering}
use Rattle.std.specs.declared.cmp.Ordering.TheVariants.{Less, Equal, Greater}
use Rattle.std.specs.Ordering.{is_lt, is_eq, eq_by_cmp, ordering_reverse}
use Rattle.std.specs.Cmp.{IsTotalOrder}
use Rattle.std.specs.List.{All, Contains, IsDistinct, count_by}
use Rattle.std.specs.List.Sorted.{IsPermutation, IsSorted}
use Rattle.std.proofs.lemmas.Cmp.{tied_itself}
use Rattle.std.proofs.lemmas.List.{length-take-le, length-drop, get_or-take, get_or-drop, get_or_default}
use Rattle.std.proofs.lemmas.List.Elements.{All-head, All-tail}
use Rattle.std.proofs.lemmas.List.Sorted.{ranks_by, sorted_far, sum_by-IsPermutation}
use Rattle.std.proofs.lemmas.List.Sums.{sum_by-cons, sum_by-take-drop, count_by-le-length}
use Rattle.std.proofs.lemmas.Map.Keys.{apart_from_distinct, IsDistinct-IsPermutation}
use Rattle.cut_lists.proofs.Parts.{count_less}

pub count_by_all : {X : Type 0} (p : X → Bool) (xs : List X) → All (λ x. p x ≡ true) xs → count_by p xs ≡ length xs
count_by_all p [] all = refl
count_by_all p (x ∷ xs) all =
    let head : p x ≡ true = All-head (λ x. p x ≡ true) x xs all in
    let rest : count_by p xs ≡ length xs = count_by_all p xs (All-tail (λ x. p x ≡ true) x xs all) in
    let here : cond {A = ℕ} (p x) 1 0 ≡ 1 = ap (λ (b : Bool). cond {A = ℕ} b 1 0) head in
    search (arith, sum_by-cons)

pub count_by_none : {X : Type 0} (p : X → Bool) (xs : List X) → All (λ x. p x ≡ false) xs → count_by p xs ≡ 0
count_by_none p [] all = refl
count_by_none p (x ∷ xs) all =
    let head : p x ≡ false = All-head (λ x. p x ≡ false) x xs all in
    let rest : count_by p xs ≡ 0 = count_by_none p xs (All-tail (λ x. p x ≡ false) x xs all) in
    grind arith

-- fewer elements come before one of a list than there are
pub rank-below : {X : Type 0} {R : X → X → Ordering} → IsTotalOrder R → (xs : List X) (x : X)
    → Contains xs x → count_by (λ y. is_lt (R y x)) xs < length xs
rank-below {X} {R} total xs x at =
    omega (
      arith,
      count_less (λ y. is_lt (R y x)) (λ _. true) xs at.0 x (λ _ _. refl) at.1
          (ap (λ y. is_lt (R y x)) at.2 ∙ ap is_lt (tied_itself total x)) refl,
      count_by-le-length (λ (_ : X). true) xs,
    )

-- and fewer come before a lesser one
pub rank-less : {X : Type 0} {R : X → X → Ordering} → IsTotalOrder R → (xs : List X) (x y : X)
    → Contains xs x → R x y ≡ Less → count_by (λ z. is_lt (R z x)) xs < count_by (λ z. is_lt (R z y)) xs
rank-less {R = R} total xs x y at less =
    grind (arith, count_less)

-- each element is less than those after it
abbrev pub Rises : {X : Type 0} → (X → X → Ordering) → List X → Type 0
Rises {X} R ys = (i j : ℕ) (d : X) → i < j → j < length ys → R (get_or ys i d) (get_or ys j d) ≡ Less

only_less : (r s : Ordering) → is_eq r ≡ false → is_lt s ≡ false → s ≡ ordering_reverse r → r ≡ Less
only_less Less s e l t = refl
only_less Equal s e l t = cc
only_less Greater s e l t = cc

pub rises : {X : Type 0} (R : X → X → Ordering) → IsTotalOrder R → (ys : List X) → IsSorted R ys
    → IsDistinct (eq_by_cmp R) ys → Rises R ys
rises R total ys sorted distinct i j d before within =
    only_less _ _ (apart_from_distinct (eq_by_cmp R) ys i j d distinct before within)
    (sorted_far (λ x y. is_lt (R x y)) (ranks_by total (λ x. x)) ys sorted i j d (omega arith) within)
    (total.antisymm _ _)

not_less_after : {X : Type 0} (R : X → X → Ordering) → IsTotalOrder R → (ys : List X) → Rises R ys → (i j : ℕ) (d : X)
    → i ≤ j → j < length ys → is_lt (R (get_or ys j d) (get_or ys i d)) ≡ false
not_less_after {X} R total ys up i j d after within = grind arith

pub rank_in_rising : {X : Type 0} (R : X → X → Ordering) → IsTotalOrder R → (ys : List X) → Rises R ys → (i : ℕ) (d : X)
    → i < length ys → count_by (λ y. is_lt (R y (get_or ys i d))) ys ≡ i
rank_in_rising {X} R total ys up i d within =
    let p : X → Bool = λ y. is_lt (R y (get_or ys i d)) in
    let first_length : length (take i ys) ≡ i = length-take-le i ys (omega arith) in
    let back_length : length (drop i ys) ≡ length ys - i = length-drop i ys in
    let prefix : count_by p (take i ys) ≡ length (take i ys) =
    grind (arith, count_by_all p (take i ys), get_or-take i ys, get_or_default ys)
    in
    let back : count_by p (drop i ys) ≡ 0 =
    count_by_none p (drop i ys) (λ k e h.
    let short : i + k < length ys = omega arith in
    ap p (get_or-drop i ys k e ∙ get_or_default ys (i + k) e d short)
    ∙ not_less_after R total ys up i (i + k) d (omega arith) short)
    in
    let joined : count_by p (take i ys) + count_by p (drop i ys)
    ≡ count_by p ys = sum_by-take-drop (λ x. cond (p x) 1 0) ys i in
    omega arith

-- two elements that the order does not distinguish are so both ways
pub tied_both : {X : Type 0} {R : X → X → Ordering} → IsTotalOrder R → (x y : X) → eq_by_cmp R x y ≡ eq_by_cmp R y x
tied_both {R = R} total x y = grind arith

-- the statement that every sort here stands on
pub rank_is_index : {X : Type 0} (R : X → X → Ordering) → IsTotalOrder R → (xs ys : List X) → IsPermutation xs ys
    → IsSorted R ys → IsDistinct (eq_by_cmp R) xs → (i : ℕ) (d : X) → i < length ys
    → count_by (λ y. is_lt (R y (get_or ys i d))) xs ≡ i
rank_is_index R total xs ys moved sorted distinct i d within =
    let apart : IsDistinct (eq_by_cmp R) ys = IsDistinct-IsPermutation (eq_by_cmp R) (tied_both total) xs ys moved
    distinct in
    grind (arith, sum_by-IsPermutation, rank_in_rising R total ys (rises R total ys sorted apart) i d within)
