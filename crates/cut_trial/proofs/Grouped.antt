-- No edges stand subject by subject, as all alerted ones do.
use Rattle.std.proofs.Common.{◌≡◌, ℕ, false, List, [], ◌∷◌, map, refl, sym, ap, ◌∙◌}
use Rattle.std.specs.List.{flat_map, range_with_len}
use Rattle.cut_lists.proofs.Counts.{filter-none}
use Rattle.cut_lists.proofs.FlatMaps.{flat_map-agree}
use Rattle.cut_lists.proofs.Ranges.{All-range_with_len}
use Rattle.cut_rings.specs.declared.edge.Edge.{Edge}
use Rattle.cut_rings.specs.Edges.{edge_to, edges_in, rings_to, set_of}

abbrev nothing : ℕ → List Edge
nothing s = []

nothing_of_each : (xs : List ℕ) → [] ≡ flat_map (λ s. nothing s) xs
nothing_of_each [] = refl
nothing_of_each (x ∷ xs) = nothing_of_each xs

pub none_are_grouped : (k n : ℕ) → [] ≡ edges_in k n (set_of [])
none_are_grouped k n =
    nothing_of_each (range_with_len 0 n)
    ∙ flat_map-agree (λ s. nothing s) (λ s. map (λ ring. edge_to s ring) (rings_to k (set_of []) s))
    (range_with_len 0 n)
    (All-range_with_len (λ s. nothing s ≡ map (λ ring. edge_to s ring) (rings_to k (set_of []) s)) 0 n
    (λ s _ _. ap (λ rings. map (λ ring. edge_to s ring) rings)
    (sym (filter-none (λ ring. false) (range_with_len 0 k) (λ j d low. refl)))))
