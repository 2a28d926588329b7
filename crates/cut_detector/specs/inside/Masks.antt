-- What only the crate's own clauses and proofs cite, beside specs/Masks.antt.
use Rattle.std.specs.Prelude.{◌≡◌, ℕ, ◌^◌, List, slice_index, slice_set, bit_or, vec_len}
use Rattle.cut_rings.specs.declared.edge.Edge.{Edge}
use Rattle.cut_detector.specs.declared.masks.Masks.{Masks}

-- the masks with one edge more
abbrev pub with_edge : List ℕ → Edge → List ℕ
with_edge masks edge = slice_set masks edge.subject (bit_or (slice_index masks edge.subject) (2 ^ edge.ring))

-- one edge is added, and nothing else changes
pub record AddsEdge (old new : Masks) (edge : Edge) : Type 0 where
  pub masks : new.masks.items ≡ with_edge old.masks.items edge
  pub long : vec_len new.masks ≡ vec_len old.masks
  pub k : new.k ≡ old.k
