-- The table over slips: what is written of a study that begins with them, once every other trial was run.
use Rattle.std.specs.Prelude.{ℕ, ◌++◌, not, List, filter, length}
use Rattle.std.specs.List.{range_with_len, flat_map}
use Rattle.cut_plan.specs.Values.{Values}
use Rattle.cut_plan.specs.Cells.{cells_of}
use Rattle.cut_plan.specs.Failing.{version_of}
use Rattle.cut_outcome.specs.declared.totals.Totals.{Totals}
use Rattle.cut_outcome.specs.Sum.{plus, sum_of, trials_of_cell}
use Rattle.cut_ledger.specs.lines.Lines.{header, line_with}
use Rattle.cut_ledger.specs.declared.slip.Slip.{Slip}
use Rattle.cut_ledger.specs.Contents.{is_in_base, slip_sum, slips_of_cell}

-- the sums of cell number c: the totals of its slips, and the outcome of each of its trials that is in none
abbrev pub full_sum : Values → List Slip → ℕ → Totals
full_sum v ss c =
    plus (slip_sum (slips_of_cell v ss c)) (sum_of v (filter (λ t. not (is_in_base ss t)) (trials_of_cell v c)))

-- the header, and the lines of the cells in order, each with these sums
abbrev pub table_over : Values → List Slip → List ℕ
table_over v ss = header (version_of v.failing)
    ++ flat_map (λ c. line_with v c (full_sum v ss c)) (range_with_len 0 (length (cells_of v)))
