-- Edges that pass a test stand by subject and then by ring, as the edges of their set do.
use Rattle.std.proofs.Common.{◌≡◌, ℕ, ◌<◌, Bool, List, [], ◌∷◌, ◌++◌, map, filter, refl}
use Rattle.std.proofs.Common.{ap, ◌∙◌, arith}
use Rattle.std.specs.List.{range_with_len, flat_map}
use Rattle.std.proofs.lemmas.List.Elements.{filter-append}
use Rattle.std.proofs.lemmas.List.Folds.{Any-from_list_any, list_any_at}
use Rattle.cut_lists.proofs.FlatMaps.{flat_map-agree}
use Rattle.cut_lists.proofs.Ranges.{All-range_with_len, filter_agree_on}
use Rattle.cut_rings.specs.declared.edge.Edge.{Edge}
use Rattle.cut_rings.specs.Edges.{EdgeSet, set_of, edge_to, rings_to, edges_in}
use Rattle.cut_alerts.specs.Alerted.{all_edges}
use Rattle.cut_alerts.proofs.EdgeLemmas.{edge, member_all}

pub filter-flat_map : {X Y : Type 0} (p : Y → Bool) (f : X → List Y) (xs : List X)
    → filter p (flat_map f xs) ≡ flat_map (λ x. filter p (f x)) xs
filter-flat_map p f [] = refl
filter-flat_map p f (x ∷ xs) =
    filter-append p (f x) (flat_map f xs) ∙ ap (λ ys. filter p (f x) ++ ys) (filter-flat_map p f xs)

filter-map : {X Y : Type 0} (p : Y → Bool) (f : X → Y) (xs : List X)
    → filter p (map f xs) ≡ map f (filter (λ x. p (f x)) xs)
filter-map p f [] = refl
filter-map p f (x ∷ xs) =
    grind (arith, filter-map p f xs)

-- the edges that pass are those of the test's set
by_subject : (test : Edge → Bool) (k n : ℕ) → filter test (all_edges k n) ≡ edges_in k n (λ ring s. test (edge ring s))
by_subject test k n =
    grind (arith, filter-flat_map, filter-map)

-- sets that agree on some rings and processes have the same edges there
edges_agree : (k n : ℕ) (E F : EdgeSet) → ((ring s : ℕ) → ring < k → s < n → E ring s ≡ F ring s)
    → edges_in k n E ≡ edges_in k n F
edges_agree k n E F same =
    flat_map-agree (λ s. map (λ ring. edge_to s ring) (rings_to k E s))
    (λ s. map (λ ring. edge_to s ring) (rings_to k F s)) (range_with_len 0 n)
    (All-range_with_len (λ s. map (λ ring. edge_to s ring) (rings_to k E s) ≡ map (λ ring. edge_to s ring)
    (rings_to k F s)) 0 n
    (λ s from below. ap (λ rings. map (λ ring. edge_to s ring) rings)
    (filter_agree_on (λ ring. E ring s) (λ ring. F ring s) 0 k
    (record { same = λ ring low high. same ring s (omega arith) (omega arith) }))))

-- the set of the edges that pass is the test, on these rings and processes
set_is : (test : Edge → Bool) (k n ring s : ℕ) → ring < k → s < n
    → test (edge ring s) ≡ set_of (filter test (all_edges k n)) ring s
set_is test k n ring s on_ring process = grind (arith, list_any_at, Any-from_list_any, member_all test k n)

pub grouped_all : (test : Edge → Bool) (k n : ℕ)
    → filter test (all_edges k n) ≡ edges_in k n (set_of (filter test (all_edges k n)))
grouped_all test k n =
    grind (arith, by_subject, edges_agree, set_is)
