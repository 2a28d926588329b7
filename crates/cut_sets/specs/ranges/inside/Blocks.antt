-- The numbers of a section, by blocks of 65,536. Only the crate's private clauses cite it.
use Rattle.std.specs.Prelude.{ℕ, ◌/◌, Bool, List, [], slice_index_or}
use Rattle.cut_sets.specs.declared.ranges.section.TheConstants.{BLOCK}
use Rattle.cut_sets.specs.ranges.inside.Edges.{is_within}

-- of each block its edges, and whether numbers can be put into any of them without memory
pub record Blocks : Type 0 where
  pub blocks : List (List ℕ)
  pub room : Bool

-- whether the number at a place, counted from the section's first, is in the set
abbrev pub is_at : List (List ℕ) → ℕ → Bool
is_at blocks place = is_within (slice_index_or blocks (place / BLOCK) []) place
