-- The line of a cell once every trial of it is held, over the slips that a study began with.
use Rattle.std.specs.Prelude.{ℕ, List}
use Rattle.cut_plan.specs.Values.{Values}
use Rattle.cut_ledger.specs.lines.Lines.{line_with}
use Rattle.cut_ledger.specs.declared.slip.Slip.{Slip}
use Rattle.cut_ledger.specs.Table.{full_sum}

-- the line of a cell with the totals of the base's slips, and the outcome of every trial of the cell that is not in
-- the base
unfoldable pub full_line : Values → List Slip → ℕ → List ℕ
full_line v base c = line_with v c (full_sum v base c)
