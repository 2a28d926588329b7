-- Sets of edges.
use Rattle.std.specs.Prelude.{ℕ, ◌+◌, ◌*◌, ◌==◌, ◌&&◌, List, Bool, map, filter, take, nat_lt}
use Rattle.std.specs.List.{list_any, list_all, range_with_len, flat_map}
use Rattle.cut_rings.specs.declared.edge.Edge.{Edge}

-- a set of edges: whether it has the edge of a ring and a subject
abbrev pub EdgeSet : Type 0
EdgeSet = ℕ → ℕ → Bool

-- whether an edge is that of a ring and a subject
abbrev pub is_edge : ℕ → ℕ → Edge → Bool
is_edge ring s e = (e.ring == ring) && (e.subject == s)

-- the set of the edges that a list holds
abbrev pub set_of : List Edge → EdgeSet
set_of edges ring s = list_any (λ e. is_edge ring s e) edges

-- the set of the first n entries of a list of edges
abbrev pub first_of : List Edge → ℕ → EdgeSet
first_of edges n = set_of (take n edges)

-- the number of an edge among those of k rings
abbrev pub edge_number : ℕ → Edge → ℕ
edge_number k e = e.subject * k + e.ring

-- whether an edge is one of the first k rings and of n processes
abbrev pub is_edge_of : ℕ → ℕ → Edge → Bool
is_edge_of k n e = nat_lt e.ring k && nat_lt e.subject n

-- whether all edges of a list are
abbrev pub are_edges_of : ℕ → ℕ → List Edge → Bool
are_edges_of k n edges = list_all (λ e. is_edge_of k n e) edges

-- the edge of a ring and a subject
abbrev pub edge_to : ℕ → ℕ → Edge
edge_to s ring = record { ring = ring; subject = s }

-- the rings among the first k on which a set has the edge to s
abbrev pub rings_to : ℕ → EdgeSet → ℕ → List ℕ
rings_to k E s = filter (λ ring. E ring s) (range_with_len 0 k)

-- the edges of a set on the first k rings to n processes, ascending by subject and then by ring
abbrev pub edges_in : ℕ → ℕ → EdgeSet → List Edge
edges_in k n E = flat_map (λ s. map (λ ring. edge_to s ring) (rings_to k E s)) (range_with_len 0 n)
