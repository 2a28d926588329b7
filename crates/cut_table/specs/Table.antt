-- What is written of a table, from a ledger.
use Rattle.std.specs.Prelude.{◌≡◌, ◌<◌, ℕ, true, false, List, length, take, Result, Ok, Err, ⊤}
use Rattle.cut_plan.specs.Cells.{cells_of}
use Rattle.cut_ledger.specs.lines.Lines.{line_with}
use Rattle.cut_ledger.specs.Contents.{Contents, cell_done, cell_sum}
use Rattle.cut_ledger.specs.Machine.{available}
use Rattle.cut_wires.specs.Log.{WireLog, wrote, write_failed}
use Rattle.cut_table.specs.declared.fault.RowFault.{RowFault}
use Rattle.cut_table.specs.declared.fault.RowFault.TheVariants as row
use Rattle.cut_table.specs.declared.fault.TableFault.{TableFault}
use Rattle.cut_table.specs.declared.fault.TableFault.TheVariants.{Memory, NotDone, Write}

-- the line of a cell, with the sums that a ledger has
abbrev pub row_of : Contents → ℕ → List ℕ
row_of l c = line_with l.plan c (cell_sum l c)

-- why the line of a cell was not given: the cell is not done, or memory ran out for that of one that is
abbrev pub IsRowFault : Contents → ℕ → RowFault → Type 0
IsRowFault l c row.Memory = cell_done l c ≡ true
IsRowFault l c (row.NotDone cell) = (cell ≡ c) × (cell_done l c ≡ false)

-- cell c is the first that is not done
pub record IsFirstUndone (l : Contents) (c : ℕ) : Type 0 where
  pub within : c < length (cells_of l.plan)
  pub undone : cell_done l c ≡ false
  pub before : (i : ℕ) → i < c → cell_done l i ≡ true

-- every cell is done
abbrev pub AreDone : Contents → Type 0
AreDone l = (i : ℕ) → i < length (cells_of l.plan) → cell_done l i ≡ true

-- what a wire took of a table, and why its writing ended: the header and the lines of all cells; those before the first
-- cell that is not done; or exactly as many of the first bytes of these as are reported and not all, if a write failed
-- or memory ran out
abbrev pub Emits : Contents → Result ⊤ TableFault → WireLog → WireLog → Type 0
Emits l (Ok done) old new = AreDone l × (new ≡ wrote old (available l))
Emits l (Err (NotDone c)) old new = IsFirstUndone l c × (new ≡ wrote old (available l))
Emits l (Err (Write fault)) old new =
    (fault.sent < length (available l)) × (new ≡ write_failed (wrote old (take fault.sent (available l))))
Emits l (Err (Memory sent)) old new =
    (sent < length (available l)) × (new ≡ wrote old (take sent (available l)))
