-- Every copy of every edge, and what is known of each.
use Rattle.std.proofs.Common.{◌≡◌, ℕ, zero, suc, ◌+◌, ◌*◌, List, [], ◌∷◌, ◌++◌, length, arith, append-nil}
use Rattle.std.specs.List.{All, flat_map, range_with_len}
use Rattle.std.proofs.lemmas.List.{length-map, length-append}
use Rattle.std.proofs.lemmas.List.Elements.{All-head, All-tail, All-nil, All-append, All-map}
use Rattle.std.proofs.lemmas.List.Concat.{flat_map-append}
use Rattle.cut_lists.proofs.Ranges.{range_with_len_more}
use Rattle.cut_rings.specs.declared.edge.Edge.{Edge}
use Rattle.cut_draws.specs.declared.delivery.Delivery.{Delivery}
use Rattle.cut_draws.specs.DeliveryOrder.{copies_of, all_deliveries}

-- one more copy of each edge
pub one_more_copy : (edges : List Edge) (c : ℕ) → all_deliveries edges (c + 1) ≡ all_deliveries edges c
    ++ copies_of edges c
one_more_copy edges c =
    grind (arith, range_with_len_more 0 c c, flat_map-append, append-nil (copies_of edges c))

-- what holds of each edge with each copy number holds of each delivery
pub all_of_copies : (P : Delivery → Type 0) (edges : List Edge) (cs : List ℕ)
    → All (λ c. All (λ e. let x : Delivery = record { edge = e; copy = c } in P x) edges) cs
    → All P (flat_map (λ c. copies_of edges c) cs)
all_of_copies P edges [] each = All-nil P
all_of_copies P edges (c ∷ cs) each =
    let Q : ℕ → Type 0 = λ i. All (λ e. let x : Delivery = record { edge = e; copy = i } in P x) edges in
    search (arith, All-append, All-map, All-head, all_of_copies P edges cs (All-tail Q c cs each))

pub count_of_copies : (edges : List Edge) (a n : ℕ) → length (flat_map (λ c. copies_of edges c) (range_with_len a n))
    ≡ n * length edges
count_of_copies edges a zero = omega arith
count_of_copies edges a (suc n) =
    grind (arith, length-map, length-append, count_of_copies edges (a + 1) n)
