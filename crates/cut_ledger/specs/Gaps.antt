-- The trials that a ledger lacks, as pieces.
use Rattle.std.specs.Prelude.{ℕ, ◌+◌, ◌-◌, ◌*◌, not, min, List, map, length}
use Rattle.std.specs.List.{range_with_len, flat_map}
use Rattle.std.specs.Int.{div_ceil}
use Rattle.cut_plan.specs.Cells.{cells_of}
use Rattle.cut_outcome.specs.declared.piece.Piece.{Piece}
use Rattle.cut_sets.specs.declared.ranges.span.Span.{Span}
use Rattle.cut_sets.specs.ranges.Spans.{spans}
use Rattle.cut_ledger.specs.Contents.{Contents, has}

-- the piece whose trials have the numbers of a span
abbrev pub piece_at : Span → Piece
piece_at s = record { first = s.first; count = s.count }

-- the gaps: the longest pieces of trials that are not held, ascending, cut at cell ends
abbrev pub gaps_of : Contents → List Piece
gaps_of l =
    flat_map (λ c. map piece_at (spans (λ t. not (has l t)) (c * l.plan.repeats) l.plan.repeats))
    (range_with_len 0 (length (cells_of l.plan)))

-- part number i, from 0, of a piece cut into parts of a size, the last one shorter where less is left
abbrev pub part_of : ℕ → Piece → ℕ → Piece
part_of size p i = record { first = p.first + i * size; count = min size (p.count - i * size) }

-- its parts in order
abbrev pub parts_of : ℕ → Piece → List Piece
parts_of size p = map (part_of size p) (range_with_len 0 (div_ceil p.count size))

-- the gaps in order, each cut from its beginning into pieces of a size
abbrev pub pieces_of : Contents → ℕ → List Piece
pieces_of l size = flat_map (parts_of size) (gaps_of l)
