-- The deliveries at a receiver, sorted.
use Rattle.std.proofs.Common.{◌≡◌, ◌∙◌, ℕ, ◌+◌, ◌-◌, ◌*◌, ◌<◌, ◌&&◌, Bool, true, List, map, take, length, get_or}
use Rattle.std.proofs.Common.{nat_lt, ap, sym, arith}
use Rattle.std.specs.Ordering.{is_lt}
use Rattle.std.specs.List.{All, count_by, list_any}
use Rattle.std.specs.List.Sorted.{IsPermutation, IsSorted}
use Rattle.std.proofs.lemmas.List.{take-map}
use Rattle.std.proofs.lemmas.List.Elements.{All-map}
use Rattle.std.proofs.lemmas.List.Sums.{AllPass-from_list_all, list_all-from_AllPass}
use Rattle.std.proofs.lemmas.List.Sorted.{All-permutation, length_permutation, list_any-IsPermutation}
use Rattle.cut_rings.specs.declared.edge.Edge.{Edge}
use Rattle.cut_rings.specs.Edges.{EdgeSet, is_edge, first_of, is_edge_of, are_edges_of}
use Rattle.cut_lists.proofs.Ranks.{rank_is_index}
use Rattle.cut_lists.proofs.Maps.{list_any-map}
use Rattle.cut_draws.specs.declared.delivery.Delivery.{Delivery}
use Rattle.cut_draws.specs.Source.{Source, key_at}
use Rattle.cut_draws.specs.DeliveryOrder.{are_distinct, all_deliveries, delivery_place, IsDeliveryOrder}
use Rattle.cut_draws.proofs.Copies.{all_of_copies, count_of_copies}
use Rattle.cut_draws.proofs.Apart.{compare_by, compare_by_total, deliveries_distinct}
use Rattle.cut_draws.proofs.Prefixes.{any_before}

-- how many of the deliveries come before one
abbrev pub rank_by : (Delivery → ℕ) → ℕ → List Edge → ℕ → Delivery → ℕ
rank_by key k edges copies x = count_by (λ y. is_lt (compare_by key k y x)) (all_deliveries edges copies)

-- all deliveries, each at the number of those before it
pub record IsDelivered (key : Delivery → ℕ) (k : ℕ) (edges : List Edge) (copies : ℕ) (order : List Delivery) : Type 0
  where
    pub each_once : IsPermutation (all_deliveries edges copies) order
    pub ranks : (i : ℕ) → i < length order → (d : Delivery) → rank_by key k edges copies (get_or order i d) ≡ i

-- sorted, each is at that number
pub delivered : (key : Delivery → ℕ) (k : ℕ) (edges : List Edge) (copies : ℕ) → are_distinct k edges ≡ true
    → (order : List Delivery) → IsPermutation (all_deliveries edges copies) order → IsSorted (compare_by key k) order
    → IsDelivered key k edges copies order
delivered key k edges copies distinct order moved up = record {
  each_once = moved;
  ranks = λ i within d. rank_is_index (compare_by key k) (compare_by_total key k) (all_deliveries edges copies) order
      moved up (deliveries_distinct key k edges copies distinct) i d within;
}

-- the edges some copy of which has fewer than n deliveries before it
abbrev pub early_by : (Delivery → ℕ) → ℕ → List Edge → ℕ → ℕ → EdgeSet
early_by key k edges copies n ring subject =
    list_any (λ x. is_edge ring subject x.edge && nat_lt (rank_by key k edges copies x) n) (all_deliveries edges copies)

-- the first n deliveries are those with fewer than n before them
prefixes : (key : Delivery → ℕ) (k : ℕ) (edges : List Edge) (copies : ℕ) (order : List Delivery)
    → IsDelivered key k edges copies order → (n : ℕ) → first_of (map (λ x. x.edge) order) n
    ≡ early_by key k edges copies n
prefixes key k edges copies order is n = λ i ring subject. same ring subject i
  where
    same : (ring subject : ℕ) → first_of (map (λ x. x.edge) order) n ring subject
        ≡ early_by key k edges copies n ring subject
    same ring subject =
        let p : Delivery → Bool = λ x. is_edge ring subject x.edge in
        let rank : Delivery → ℕ = rank_by key k edges copies in
        ap (list_any (λ e. is_edge ring subject e)) (take-map (λ x. x.edge) n order)
        ∙ list_any-map (λ e. is_edge ring subject e) (λ x. x.edge) (take n order)
        ∙ ap (λ m. list_any p (take m order)) (let e : n ≡ n - 0 = omega arith in e)
        ∙ sym (any_before p rank order 0 n (λ i d within. is.ranks i within d ∙ (let e : i ≡ 0 + i = omega arith in e)))
        ∙ sym (list_any-IsPermutation (λ x. p x && nat_lt (rank x) n) (all_deliveries edges copies) order is.each_once)

count : (key : Delivery → ℕ) (k : ℕ) (edges : List Edge) (copies : ℕ) (order : List Delivery)
    → IsDelivered key k edges copies order → length order ≡ copies * length edges
count key k edges copies order is =
    length_permutation (all_deliveries edges copies) order is.each_once ∙ count_of_copies edges 0 copies

still_within : (key : Delivery → ℕ) (k : ℕ) (edges : List Edge) (copies : ℕ) (order : List Delivery)
    → IsDelivered key k edges copies order → (n : ℕ) → are_edges_of k n edges ≡ true
    → are_edges_of k n (map (λ x. x.edge) order) ≡ true
still_within key k edges copies order is n within =
    let P : Delivery → Type 0 = λ x. is_edge_of k n x.edge ≡ true in
    let all : All P (all_deliveries edges copies) =
    search (arith, all_of_copies, AllPass-from_list_all)
    in
    search (arith, list_all-from_AllPass, All-map, All-permutation)

-- so the list is in the order in which the deliveries come
pub ordered : (d : Source) (receiver k : ℕ) (edges : List Edge) (copies : ℕ) (order : List Delivery)
    → IsDelivered (λ x. key_at d (delivery_place receiver k x)) k edges copies order
    → IsDeliveryOrder d receiver k edges copies order
ordered d receiver k edges copies order is =
    search (arith, prefixes, count, still_within)
