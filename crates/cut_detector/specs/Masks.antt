-- A set of edges as a list of masks: a bit of a process's mask says whether the set has the edge of
-- that ring to it.
use Rattle.std.specs.Prelude.{ℕ, ◌==◌, List, slice_index}
use Rattle.std.specs.Int.{bit_at}
use Rattle.cut_rings.specs.Edges.{EdgeSet}

-- the set of edges that masks hold
abbrev pub edges_in : List ℕ → EdgeSet
edges_in masks ring subject = bit_at (slice_index masks subject) ring == 1
