-- The table of a study: comma-separated values with a header, one line for each cell (this project's
-- profile of the Rapid paper's sensitivity study).
use Rattle.std.specs.Prelude.{ℕ, ◌*◌, ◌/◌, List, [], ◌∷◌, ◌++◌, map, length, codes, slice_index_or}
use Rattle.std.specs.Fmt.{decimal}
use Rattle.std.specs.List.{range_with_len, flat_map, join_with_byte}
use Rattle.cut_plan.specs.declared.cell.Cell.{Cell}
use Rattle.cut_fields.specs.declared.version.Version.{Version}
use Rattle.cut_fields.specs.declared.version.Version.TheVariants.{One, Two}
use Rattle.cut_plan.specs.Values.{Values}
use Rattle.cut_plan.specs.Failing.{version_of}
use Rattle.cut_plan.specs.Cells.{cells_of}
use Rattle.cut_outcome.specs.declared.totals.Totals.{Totals}
use Rattle.cut_outcome.specs.Outcome.{no_cell}
use Rattle.cut_outcome.specs.Sum.{sum_of, trials_of_cell}

-- numbers in decimal, with commas between them, and a line feed
abbrev pub comma_line : List ℕ → List ℕ
comma_line numbers = join_with_byte 44 (map decimal numbers) ++ 10 ∷ []

-- the names of the columns of a version's tables, with a line feed: those of version 2 have `settled`
abbrev pub header : Version → List ℕ
header One = codes "k,h,l,f,trials,receivers,conflicts,silent,extra,votes,decided,right,ppm" ++ 10 ∷ []
header Two = codes "k,h,l,f,trials,receivers,conflicts,silent,extra,votes,decided,right,settled,ppm" ++ 10 ∷ []

-- the column of `settled`, which the tables of version 1 do not have
abbrev pub settled_column : Version → Totals → List ℕ
settled_column One x = []
settled_column Two x = x.settled ∷ []

-- conflicts in a million receivers, rounded down; 0 if there are no receivers
abbrev pub ppm_of : Totals → ℕ
ppm_of x = x.conflicts * 1000000 / x.receivers

-- the numbers of a cell's line
abbrev pub columns : Values → Cell → Totals → List ℕ
columns v c x =
    c.k ∷ c.h ∷ c.l ∷ c.f ∷ v.repeats ∷ x.receivers ∷ x.conflicts ∷ x.silent ∷ x.extra ∷ x.votes ∷ x.decided
    ∷ x.right ∷ settled_column (version_of v.failing) x ++ ppm_of x ∷ []

-- the cell with this number
abbrev pub cell_numbered : Values → ℕ → Cell
cell_numbered v i = slice_index_or (cells_of v) i no_cell

-- the line of a cell, with these sums over its trials
abbrev pub line_with : Values → ℕ → Totals → List ℕ
line_with v i x = comma_line (columns v (cell_numbered v i) x)

-- the header, and the lines of the cells in order, each with the sums over all trials of its cell
unfoldable pub table : Values → List ℕ
table v = header (version_of v.failing)
    ++ flat_map (λ i. line_with v i (sum_of v (trials_of_cell v i))) (range_with_len 0 (length (cells_of v)))
