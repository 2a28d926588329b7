-- The order in which the alerts of a trial come to a receiver. That it is random, and apart for each
-- receiver, is the Rapid paper's; the keys are this project's profile.
use Rattle.std.specs.Prelude.{◌≡◌, ℕ, ◌+◌, ◌*◌, ◌^◌, ◌&&◌, ◌==◌, List, [], ◌∷◌, map, length, slice_index_or, count_by}
use Rattle.std.specs.Prelude.{Bool, true, not, nat_lt, EachIndex, IsTrue}
use Rattle.std.specs.List.Sorted.{IsPermutation}
use Rattle.std.specs.List.{range_with_len, flat_map, list_any}
use Rattle.std.specs.declared.cmp.Ordering.{Ordering}
use Rattle.std.specs.Ordering.{nat_cmp, ordering_then, is_lt}
use Rattle.cut_rings.specs.declared.edge.Edge.{Edge}
use Rattle.cut_rings.specs.Edges.{EdgeSet, is_edge, edge_number, first_of, are_edges_of}
use Rattle.cut_draws.specs.declared.delivery.Delivery.{Delivery}
use Rattle.cut_draws.specs.Source.{Source, key_at}

-- whether no two edges of a list have the same number
abbrev pub are_distinct : ℕ → List Edge → Bool
are_distinct k [] = true
are_distinct k (e ∷ rest) = not (list_any (λ x. edge_number k x == edge_number k e) rest) && are_distinct k rest

-- one copy of every edge
abbrev pub copies_of : List Edge → ℕ → List Delivery
copies_of edges c = map (λ e. record { edge = e; copy = c }) edges

-- every copy of every edge
abbrev pub all_deliveries : List Edge → ℕ → List Delivery
all_deliveries edges copies = flat_map (λ c. copies_of edges c) (range_with_len 0 copies)

-- the place of a delivery's key at a receiver, in a cell of k rings
abbrev pub delivery_place : ℕ → ℕ → Delivery → ℕ
delivery_place receiver k x =
    2 ^ 20 + 2 * ((x.copy * 2 ^ 11 + receiver) * 2 ^ 16 + edge_number k x.edge)

-- how two deliveries at a receiver compare: by key, then by edge number, then by copy
abbrev pub compare_deliveries : Source → ℕ → ℕ → Delivery → Delivery → Ordering
compare_deliveries d receiver k y x =
    ordering_then (nat_cmp (key_at d (delivery_place receiver k y)) (key_at d (delivery_place receiver k x)))
    (ordering_then (nat_cmp (edge_number k y.edge) (edge_number k x.edge)) (nat_cmp y.copy x.copy))

-- how many deliveries come before one
abbrev pub delivery_rank : Source → ℕ → ℕ → List Edge → ℕ → Delivery → ℕ
delivery_rank d receiver k edges copies x =
    count_by (λ y. is_lt (compare_deliveries d receiver k y x)) (all_deliveries edges copies)

-- the edges some copy of which has fewer than n deliveries before it: what a receiver has heard of
-- after n deliveries
abbrev pub early : Source → ℕ → ℕ → List Edge → ℕ → ℕ → EdgeSet
early d receiver k edges copies n ring subject =
    list_any (λ x. is_edge ring subject x.edge && nat_lt (delivery_rank d receiver k edges copies x) n)
    (all_deliveries edges copies)

-- a list of all deliveries at a receiver, in the order in which they come
pub record IsDeliveryOrder (d : Source) (receiver k : ℕ) (edges : List Edge) (copies : ℕ) (order : List Delivery) : Type
    0 where
  -- it holds each delivery once
  pub each_once : IsPermutation (all_deliveries edges copies) order
  -- each stands at the number of those that come before it
  pub ranks : EachIndex order (λ i. (x : Delivery) → delivery_rank d receiver k edges copies (slice_index_or order i x)
      ≡ i)
  -- what has come after n deliveries, as a set of edges
  pub prefixes : (n : ℕ) → first_of (map (λ x. x.edge) order) n ≡ early d receiver k edges copies n
  -- there are as many as copies of all edges
  pub count : length order ≡ copies * length edges
  -- its edges are of the first k rings and of n processes if all given edges are
  pub still_within : (n : ℕ) → IsTrue (are_edges_of k n edges) → IsTrue (are_edges_of k n (map (λ x. x.edge) order))
