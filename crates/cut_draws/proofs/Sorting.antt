-- Any list can be sorted, so the deliveries at a receiver have an order.
use Rattle.std.proofs.Common.{◌≡◌, ◌∙◌, ℕ, zero, suc, ◌+◌, ◌<◌, Bool, true, false, cond, List, [], ◌∷◌, length, get_or}
use Rattle.std.proofs.Common.{refl, ap, sym, arith}
use Rattle.std.specs.declared.cmp.Ordering.{Ordering}
use Rattle.std.specs.declared.cmp.Ordering.TheVariants.{Less, Equal, Greater}
use Rattle.std.specs.Ordering.{is_lt, ordering_reverse}
use Rattle.std.specs.Cmp.{IsTotalOrder}
use Rattle.std.specs.List.{Contains}
use Rattle.std.specs.List.Sorted.{IsPermutation, IsSorted}
use Rattle.std.proofs.lemmas.List.{get_or_default}
use Rattle.std.proofs.lemmas.List.Sorted.{IsPermutation-refl, IsPermutation-cons, IsPermutation-trans}
use Rattle.std.proofs.lemmas.List.Sorted.{IsPermutation-middle, Contains-permutation}
use Rattle.cut_rings.specs.declared.edge.Edge.{Edge}
use Rattle.cut_draws.specs.declared.delivery.Delivery.{Delivery}
use Rattle.cut_draws.specs.Source.{Source, key_at}
use Rattle.cut_draws.specs.DeliveryOrder.{are_distinct, all_deliveries, delivery_place, delivery_rank, IsDeliveryOrder}
use Rattle.cut_draws.proofs.Apart.{compare_by, compare_by_total}
use Rattle.cut_draws.proofs.Delivered.{delivered, ordered}

module _ {X : Type 0} (R : X → X → Ordering) where
  -- x before the first element that isn't less
  abbrev put : X → List X → List X
  put x [] = x ∷ []
  put x (y ∷ ys) = cond (is_lt (R y x)) (y ∷ put x ys) (x ∷ y ∷ ys)

  put_moves : (x : X) (ys : List X) → IsPermutation (x ∷ ys) (put x ys)
  put_moves x [] = IsPermutation-refl (x ∷ [])
  put_moves x (y ∷ ys) = go (is_lt (R y x)) (put_moves x ys)
    where
      go : (b : Bool) → IsPermutation (x ∷ ys) (put x ys)
          → IsPermutation (x ∷ y ∷ ys) (cond b (y ∷ put x ys) (x ∷ y ∷ ys))
      go true rest = IsPermutation-trans _ (y ∷ x ∷ ys) _ (IsPermutation-middle (x ∷ []) y ys)
          (IsPermutation-cons y _ _ rest)
      go false rest = IsPermutation-refl (x ∷ y ∷ ys)

  -- the first element, if there is one
  abbrev First : (X → Type 0) → List X → Type 0
  First P xs = (d : X) → 0 < length xs → P (get_or xs 0 d)

  put_first : (P : X → Type 0) (x : X) (ys : List X) → P x → First P ys → First P (put x ys)
  put_first P x [] here first = λ d some. here
  put_first P x (y ∷ ys) here first = go (is_lt (R y x))
    where
      go : (b : Bool) → First P (cond b (y ∷ put x ys) (x ∷ y ∷ ys))
      go true = λ d some. first d (omega arith)
      go false = λ d some. here

  sorted_cons : (x : X) (ys : List X) → First (λ y. is_lt (R y x) ≡ false) ys → IsSorted R ys → IsSorted R (x ∷ ys)
  sorted_cons x ys first up zero d low within = first d (omega arith)
  sorted_cons x ys first up (suc k) d low within =
      let next : suc k + 1 ≡ suc (k + 1) = omega arith in
      ap (λ n. is_lt (R (get_or (x ∷ ys) n d) (get_or ys k d))) next ∙ up k d (omega arith) (omega arith)

  sorted_rest : (x : X) (ys : List X) → IsSorted R (x ∷ ys) → IsSorted R ys
  sorted_rest x ys up = λ k d low within.
      let next : suc (k + 1) ≡ suc k + 1 = omega arith in
      ap (λ n. is_lt (R (get_or (x ∷ ys) n d) (get_or ys k d))) next ∙ up (suc k) d (omega arith) (omega arith)

  not_back : (r : Ordering) → is_lt r ≡ true → is_lt (ordering_reverse r) ≡ false
  not_back Less e = refl
  not_back Equal e = cc
  not_back Greater e = cc

  put_sorted : IsTotalOrder R → (x : X) (ys : List X) → IsSorted R ys → IsSorted R (put x ys)
  put_sorted total x [] up = sorted_cons x [] (λ d some. absurd (omega arith)) up
  put_sorted total x (y ∷ ys) up = go (is_lt (R y x)) refl (put_sorted total x ys (sorted_rest y ys up))
    where
      go : (b : Bool) → is_lt (R y x) ≡ b → IsSorted R (put x ys) → IsSorted R (cond b (y ∷ put x ys) (x ∷ y ∷ ys))
      go true e rest = sorted_cons y (put x ys) (put_first (λ z. is_lt (R z y) ≡ false) x ys
          (ap is_lt (total.antisymm x y) ∙ not_back (R y x) e) (λ d some. up 0 d (omega arith) (omega arith))) rest
      go false e rest = sorted_cons x (y ∷ ys) (λ d some. e) up

  pub sorting : IsTotalOrder R → (xs : List X) → (ys : List X) × IsPermutation xs ys × IsSorted R ys
  sorting total [] = ([], IsPermutation-refl [], (λ k d low within. absurd (omega arith)))
  sorting total (x ∷ xs) =
      let rest = sorting total xs in (
        put x rest.0,
        IsPermutation-trans _ (x ∷ rest.0) _ (IsPermutation-cons x xs rest.0 rest.1) (put_moves x rest.0),
        put_sorted total x rest.0 rest.2,
      )

pub order_exists : (d : Source) (receiver k : ℕ) (edges : List Edge) (copies : ℕ) → are_distinct k edges ≡ true
    → (order : List Delivery) × IsDeliveryOrder d receiver k edges copies order
order_exists d receiver k edges copies distinct =
    let key : Delivery → ℕ = λ x. key_at d (delivery_place receiver k x) in
    let sorted = sorting (compare_by key k) (compare_by_total key k) (all_deliveries edges copies) in (
      sorted.0,
      ordered d receiver k edges copies sorted.0
          (delivered key k edges copies distinct sorted.0 sorted.1 sorted.2),
    )

pub at_rank : (d : Source) (receiver k : ℕ) (edges : List Edge) (copies : ℕ) (order : List Delivery)
    (x other : Delivery)
    → IsDeliveryOrder d receiver k edges copies order → Contains (all_deliveries edges copies) x
    → (delivery_rank d receiver k edges copies x < length order)
    × (get_or order (delivery_rank d receiver k edges copies x) other ≡ x)
at_rank d receiver k edges copies order x other is among =
    let found = Contains-permutation (all_deliveries edges copies) order x is.each_once among in
    let rank : delivery_rank d receiver k edges copies x ≡ found.0 =
    ap (delivery_rank d receiver k edges copies) (sym found.2) ∙ is.ranks found.0 found.1 x in (
      omega (arith, rank, found.1),
      ap (λ i. get_or order i other) rank ∙ get_or_default order found.0 other x found.1
          ∙ found.2,
    )
