-- The edges to each process, among those of a trial.
use Rattle.std.specs.Prelude.{◌==◌, ℕ, List, [], ◌∷◌, map, Option, Some, None, if◌then◌else◌}
use Rattle.std.specs.List.{range_with_len, flat_map}
use Rattle.cut_rings.specs.declared.edge.Edge.{Edge}
use Rattle.cut_rings.specs.Edges.{EdgeSet, edge_to, rings_to}
use Rattle.cut_arrivals.specs.declared.candidates.key_places.KeyPlace.{KeyPlace}

-- the edges of a set on the first k rings to one process
abbrev pub run_of : ℕ → EdgeSet → ℕ → List Edge
run_of k E s = map (λ ring. edge_to s ring) (rings_to k E s)

-- and those to the n processes from s on
abbrev pub runs_from : ℕ → EdgeSet → ℕ → ℕ → List Edge
runs_from k E s n = flat_map (λ s. run_of k E s) (range_with_len s n)

-- the key place of the first of some edges, if that is on this ring
abbrev pub first_on : ℕ → List Edge → List KeyPlace → Option KeyPlace
first_on ring [] key_places = None
first_on ring (e ∷ es) [] = None
first_on ring (e ∷ es) (key_place ∷ key_places) = if e.ring == ring then Some key_place else None
