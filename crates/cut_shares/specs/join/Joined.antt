-- The slips of a plan, joined: one for each greatest run of adjacent trials of a cell that they have.
use Rattle.std.specs.Prelude.{ℕ, ◌*◌, List, map, filter, length}
use Rattle.std.specs.List.{range_with_len, flat_map}
use Rattle.cut_sets.specs.ranges.Spans.{spans}
use Rattle.cut_plan.specs.Cells.{cells_of}
use Rattle.cut_plan.specs.Values.{Values}
use Rattle.cut_outcome.specs.declared.piece.Piece.{Piece}
use Rattle.cut_ledger.specs.declared.slip.Slip.{Slip}
use Rattle.cut_ledger.specs.Contents.{is_in, is_in_base, slip_sum}
use Rattle.cut_ledger.specs.Gaps.{piece_at}

-- the runs of cell number c: the longest pieces of its trials that slips have, ascending
abbrev pub runs_of_cell : Values → List Slip → ℕ → List Piece
runs_of_cell v ss c = map piece_at (spans (is_in_base ss) (c * v.repeats) v.repeats)

-- the runs of all cells, cell by cell
abbrev pub runs_of : Values → List Slip → List Piece
runs_of v ss = flat_map (runs_of_cell v ss) (range_with_len 0 (length (cells_of v)))

-- the slips of a run: those whose first trial is in it
abbrev pub slips_of_run : List Slip → Piece → List Slip
slips_of_run ss p = filter (λ s. is_in p s.piece.first) ss

-- a run as one slip: the totals of its slips, added up
abbrev pub slip_of_run : List Slip → Piece → Slip
slip_of_run ss p = record { piece = p; totals = slip_sum (slips_of_run ss p) }

-- the slips of a plan, joined
unfoldable pub joined : Values → List Slip → List Slip
joined v ss = map (slip_of_run ss) (runs_of v ss)
