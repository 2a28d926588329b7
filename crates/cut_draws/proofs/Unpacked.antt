-- Deliveries in numbers, sorted.
use Rattle.std.proofs.Common.{◌≡◌, ℕ, ◌+◌, ◌/◌, ◌<◌, ◌≤◌, Bool, true, false, nat_lt, List, [], ◌∷◌}
use Rattle.std.proofs.Common.{map, length, get_or, refl, ap, sym, subst, ◌∙◌, arith}
use Rattle.std.specs.declared.cmp.Ordering.{Ordering}
use Rattle.std.specs.declared.cmp.Ordering.TheVariants.{Greater}
use Rattle.std.specs.Ordering.{is_lt, nat_cmp}
use Rattle.std.specs.Bool.{IsTrue}
use Rattle.std.specs.List.{All, range_with_len, IsAllAdjacentAnswer}
use Rattle.std.specs.List.Sorted.{IsPermutation, IsSorted}
use Rattle.std.proofs.lemmas.Bool.{and_parts, ltb-true}
use Rattle.std.proofs.lemmas.List.{length-map, get_or-map}
use Rattle.std.proofs.lemmas.List.Elements.{All-map, All-head, All-tail}
use Rattle.std.proofs.lemmas.List.Sorted.{IsPermutation-map, IsPermutation-trans, All-permutation}
use Rattle.std.proofs.lemmas.List.Sums.{AllPass-from_list_all}
use Rattle.cut_lists.proofs.Maps.{map-map}
use Rattle.cut_lists.proofs.Orders.{range_is_below}
use Rattle.cut_rings.specs.declared.edge.Edge.{Edge}
use Rattle.cut_rings.specs.Edges.{edge_number, is_edge_of, are_edges_of}
use Rattle.cut_draws.specs.declared.delivery.Delivery.{Delivery}
use Rattle.cut_draws.specs.declared.packed.Keyed.{Keyed}
use Rattle.cut_draws.specs.DeliveryOrder.{all_deliveries}
use Rattle.cut_draws.specs.inside.Packed.{packed_of, delivery_in, compare_keyed, ArePackedRising}
use Rattle.cut_draws.proofs.Apart.{compare_by}
use Rattle.cut_draws.proofs.Copies.{all_of_copies}

-- a number that holds its delivery under the delivery's key, of an edge of the first k rings
record IsOwn (key : Delivery → ℕ) (k w : ℕ) : Type 0 where
  high : w / 262144 ≡ key (delivery_in w) / 262144
  edge : is_edge_of k 2048 (delivery_in w).edge ≡ true

-- a delivery that can be packed
record IsInRange (k : ℕ) (x : Delivery) : Type 0 where
  edge : is_edge_of k 2048 x.edge ≡ true
  copy : x.copy < 4

-- a packed delivery is read back
unpacked : (key k : ℕ) (x : Delivery) → k ≤ 32 → IsInRange k x → delivery_in (packed_of key x) ≡ x
unpacked key k x few is =
    grind arith

all_in_range : (k : ℕ) (edges : List Edge) (copies : ℕ) → copies ≤ 4 → are_edges_of k 2048 edges ≡ true
    → All (IsInRange k) (all_deliveries edges copies)
all_in_range k edges copies few within =
    all_of_copies (IsInRange k) edges (range_with_len 0 copies) (λ i c inside j e below.
    let low : get_or (range_with_len 0 copies) i c < copies = range_is_below copies i c inside in
    record { edge = AllPass-from_list_all (λ x. is_edge_of k 2048 x) edges within j e below; copy = omega arith })

map-same : {X : Type 0} (f : X → X) (xs : List X) → All (λ x. f x ≡ x) xs → map f xs ≡ xs
map-same f [] same = refl
map-same f (x ∷ xs) same =
    search (arith, All-head, All-tail, map-same f xs)

-- all deliveries in numbers, in some order
pub record IsPacked (key : Delivery → ℕ) (k : ℕ) (edges : List Edge) (copies : ℕ) (words : List ℕ) : Type 0 where
  pub moved : IsPermutation (map (λ x. packed_of (key x) x) (all_deliveries edges copies)) words
  pub few_rings : k ≤ 32
  pub few_copies : copies ≤ 4
  pub within : are_edges_of k 2048 edges ≡ true

all_own : (key : Delivery → ℕ) (k : ℕ) (edges : List Edge) (copies : ℕ) (words : List ℕ)
    → IsPacked key k edges copies words → All (IsOwn key k) words
all_own key k edges copies words is =
    let all : List Delivery = all_deliveries edges copies in
    let pack : Delivery → ℕ = λ x. packed_of (key x) x in
    All-permutation (IsOwn key k) (map pack all) words is.moved (All-map (IsOwn key k) pack all (λ i x inside.
    let y : Delivery = get_or all i x in
    let fits : IsInRange k y = all_in_range k edges copies is.few_copies is.within i x inside in
    let same : delivery_in (pack y) ≡ y = unpacked (key y) k y is.few_rings fits in
    let parts = and_parts (nat_lt y.edge.ring k) _ fits.edge in
    let low : y.edge.ring < k = ltb-true _ _ parts.0 in
    let process : y.edge.subject < 2048 = ltb-true _ _ parts.1 in
    let high : pack y / 262144 ≡ key y / 262144 = omega (arith, fits.copy, is.few_rings) in
    record {
      high = high ∙ ap (λ z. key z / 262144) (sym same);
      edge = ap (λ (z : Delivery). is_edge_of k 2048 z.edge)
          same ∙ fits.edge;
    }))

-- their edges are of the first k rings
pub packed_edges : (key : Delivery → ℕ) (k : ℕ) (edges : List Edge) (copies : ℕ) (words : List ℕ)
    → IsPacked key k edges copies words → All (λ w. is_edge_of k 2048 (delivery_in w).edge ≡ true) words
packed_edges key k edges copies words is = λ i w inside. (all_own key k edges copies words is i w inside).edge

-- they hold each delivery once
pub packed_moved : (key : Delivery → ℕ) (k : ℕ) (edges : List Edge) (copies : ℕ) (words : List ℕ)
    → IsPacked key k edges copies words → IsPermutation (all_deliveries edges copies) (map delivery_in words)
packed_moved key k edges copies words is =
    let all : List Delivery = all_deliveries edges copies in
    let pack : Delivery → ℕ = λ x. packed_of (key x) x in
    let P : List Delivery → Type 0 = λ xs. IsPermutation xs (map delivery_in words) in
    subst P (map-map pack delivery_in all ∙ map-same (λ x. delivery_in (pack x)) all (λ i x inside.
    unpacked (key (get_or all i x)) k (get_or all i x) is.few_rings
    (all_in_range k edges copies is.few_copies is.within i x inside)))
    (IsPermutation-map delivery_in (map pack all) words is.moved)

-- a list is sorted by an order on what a function gives, where the function's list is sorted
pub sorted-map : {X Y : Type 0} (C : Y → Y → Ordering) (f : X → Y) (xs : List X) → IsSorted (λ a b. C (f a) (f b)) xs
    → IsSorted C (map f xs)
sorted-map C f [] up = λ k d low within. absurd (omega arith)
sorted-map C f (x ∷ xs) up = λ k d low within.
    let long : length (map f (x ∷ xs)) ≡ length (x ∷ xs) = length-map (x ∷ xs) f in
    ap (λ y. is_lt (C y (get_or (map f (x ∷ xs)) k d))) (get_or-map f (x ∷ xs) (k + 1) x d (omega arith))
    ∙ ap (λ y. is_lt (C (f (get_or (x ∷ xs) (k + 1) x)) y)) (get_or-map f (x ∷ xs) k x d (omega arith))
    ∙ up k x low (omega arith)

pub nat_cmp-greater : (a b : ℕ) → b < a → nat_cmp a b ≡ Greater
nat_cmp-greater a b more =
    grind arith

-- where the packed parts of the keys rise, the deliveries are sorted
pub rising_sorted : (key : Delivery → ℕ) (k : ℕ) (edges : List Edge) (copies : ℕ) (words : List ℕ)
    → IsPacked key k edges copies words → ArePackedRising words → IsSorted (compare_by key k) (map delivery_in words)
rising_sorted key k edges copies words is rises =
    grind (arith, sorted-map (compare_by key k) delivery_in words, all_own key k edges copies words is, nat_cmp-greater)

-- a packed delivery with what deliveries are ordered by
abbrev pub keyed_by : (Delivery → ℕ) → ℕ → ℕ → Keyed
keyed_by key k w = record {
  key = key (delivery_in w);
  number = edge_number k (delivery_in w).edge;
  copy =
      (delivery_in w).copy;
  packed = w;
}

-- in order of the whole keys they are sorted
pub keyed_sorted : (key : Delivery → ℕ) (k : ℕ) (words : List ℕ) (keyed : List Keyed)
    → IsPermutation (map (keyed_by key k) words) keyed → IsSorted compare_keyed keyed
    → IsSorted (compare_by key k) (map delivery_in (map (λ x. x.packed) keyed))
keyed_sorted key k words keyed moved up =
    let own : All (λ x. x ≡ keyed_by key k x.packed) keyed =
    search (arith, All-permutation, All-map) in
    subst (IsSorted (compare_by key k)) (sym (map-map (λ x. x.packed) delivery_in keyed))
    (sorted-map (compare_by key k) (λ x. delivery_in x.packed) keyed (λ i x low within.
    ap (λ y. is_lt (compare_keyed y (keyed_by key k (get_or keyed i x).packed))) (sym (own (i + 1) x within))
    ∙ ap (λ y. is_lt (compare_keyed (get_or keyed (i + 1) x) y)) (sym (own i x (omega arith)))
    ∙ up i x low within))

-- and are the same numbers
pub keyed_packed : (key : Delivery → ℕ) (k : ℕ) (edges : List Edge) (copies : ℕ) (words : List ℕ) (keyed : List Keyed)
    → IsPacked key k edges copies words → IsPermutation (map (keyed_by key k) words) keyed
    → IsPacked key k edges copies (map (λ x. x.packed) keyed)
keyed_packed key k edges copies words keyed is moved =
    let P : List ℕ → Type 0 = λ xs. IsPermutation xs (map (λ x. x.packed) keyed) in
    let same : IsPermutation words (map (λ x. x.packed) keyed) =
    subst P (map-map (keyed_by key k) (λ x. x.packed) words ∙ map-same (λ w. w) words (λ _ _ _. refl))
    (IsPermutation-map (λ x. x.packed) (map (keyed_by key k) words) keyed moved)
    in
    grind (arith, IsPermutation-trans)

-- what a test of all neighbours says
pub rising : (words : List ℕ) (r : Bool) → IsAllAdjacentAnswer (λ v w b. b ≡ nat_lt (v / 262144) (w / 262144)) words r
    → IsTrue r → ArePackedRising words
rising words true all passed = λ i w within. ltb-true _ _ (sym (all i w within))
rising words false some passed = cc
