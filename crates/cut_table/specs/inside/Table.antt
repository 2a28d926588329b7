-- What only the crate's own clauses and proofs cite, beside specs/Table.antt.
use Rattle.std.specs.Prelude.{◌≡◌, ◌<◌, ℕ, true, length, Result, Ok, Err, ⊤}
use Rattle.std.proofs.Common.{refl, arith}
use Rattle.cut_ledger.specs.declared.lines.line.TheConstants.{LONGEST_LINE}
use Rattle.cut_plan.specs.Cells.{cells_of}
use Rattle.cut_plan.specs.Failing.{version_of}
use Rattle.cut_ledger.specs.lines.Lines.{header}
use Rattle.cut_ledger.specs.Contents.{Contents, cell_done}
use Rattle.cut_wires.specs.declared.rows.RowsFault.{RowsFault}
use Rattle.cut_wires.specs.declared.rows.RowsFault.TheVariants.{Row, Write as Unsent}
use Rattle.cut_wires.specs.Rows.{Table}
use Rattle.cut_table.specs.declared.fault.RowFault.{RowFault}
use Rattle.cut_table.specs.declared.fault.RowFault.TheVariants as row
use Rattle.cut_table.specs.declared.fault.TableFault.{TableFault}
use Rattle.cut_table.specs.declared.fault.TableFault.TheVariants.{Memory, NotDone, Write}
use Rattle.cut_table.specs.Table.{row_of, IsRowFault}

-- the header, and a line for each cell
abbrev pub table_of : Contents → Table
table_of l = record {
  header = header (version_of l.plan.failing);
  row = row_of l;
  rows = length (cells_of l.plan);
  longest = LONGEST_LINE;
}

-- the lines of the first n cells of a ledger were given, which are done
pub record AreGiven (l : Contents) (n : ℕ) (now : Contents) : Type 0 where
  pub same : now ≡ l
  pub done : (i : ℕ) → i < n → cell_done l i ≡ true

-- at first none
pub none_given : (l : Contents) → AreGiven l 0 l
none_given l = record { same = refl; done = λ i below. absurd (omega (arith, below)) }

-- and that of the next was not
abbrev pub IsWithheld : Contents → ℕ → RowFault → Contents → Type 0
IsWithheld l n fault now = AreGiven l n now × IsRowFault l n fault

-- how the writing of a table ended, by how the sending of its rows did, and by how many bytes were sent then
abbrev pub table_result_of : Result ⊤ (RowsFault RowFault) → ℕ → Result ⊤ TableFault
table_result_of (Ok done) sent = Ok done
table_result_of (Err (Unsent fault)) sent = Err (Write fault)
table_result_of (Err (Row (row.NotDone cell))) sent = Err (NotDone cell)
table_result_of (Err (Row row.Memory)) sent = Err (Memory sent)
