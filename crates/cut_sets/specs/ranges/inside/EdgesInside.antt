-- What of `Edges` contracts see, and what is always true of them.
use Rattle.std.specs.Prelude.{◌+◌, nat_le, vec_len, vec_capacity}
use Rattle.std.specs.List.Sorted.{IsNonDecreasing}
use Rattle.cut_sets.specs.declared.ranges.edges.Edges.TheInside.{Inside}
use Rattle.cut_sets.specs.ranges.inside.Edges.{Row}

abbrev pub row_of : Inside → Row
row_of e = record { edges = e.edges.items; room = nat_le (vec_len e.edges + 2) (vec_capacity e.edges) }

abbrev pub IsRow : Inside → Type 0
IsRow e = IsNonDecreasing e.edges.items
