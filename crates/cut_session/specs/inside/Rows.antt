-- The lines of an opened study, as a session sends them. Only the crate's private clauses cite it.
use Rattle.std.specs.Prelude.{◌≡◌, List, length, refl, Result, Ok, Err, ⊤}
use Rattle.std.specs.Borrow.{GName}
use Rattle.cut_ledger.specs.declared.lines.line.TheConstants.{LONGEST_LINE}
use Rattle.cut_plan.specs.Cells.{cells_of}
use Rattle.cut_plan.specs.Values.{Values}
use Rattle.cut_plan.specs.Failing.{version_of}
use Rattle.cut_ledger.specs.lines.Lines.{header}
use Rattle.cut_ledger.specs.declared.slip.Slip.{Slip}
use Rattle.cut_wires.specs.declared.rows.RowsFault.{RowsFault}
use Rattle.cut_wires.specs.declared.send.Sent.{Sent}
use Rattle.cut_wires.specs.declared.rows.RowsFault.TheVariants.{Row, Write}
use Rattle.cut_wires.specs.Rows.{Table}
use Rattle.cut_wires.specs.Sending.{Sending, Sends}
use Rattle.cut_slots.specs.declared.next_row_fault.NextRowFault.{NextRowFault}
use Rattle.cut_slots.specs.Faults.{code_of_line}
use Rattle.cut_slots.specs.Lines.{full_line}
use Rattle.cut_slots.specs.Pass.{Holding}
use Rattle.cut_session.specs.Answering.{end_frame, error_frame}

-- the header, and the line of each cell over the slips that the study began with
abbrev pub lines_of : Values → List Slip → Table
lines_of plan base = record {
  header = header (version_of plan.failing);
  row = full_line plan base;
  rows = length (cells_of plan);
  longest = LONGEST_LINE;
}

-- the same pass has seen no more
pub record IsKept (old_name : GName) (old : Holding) (new_name : GName) (new : Holding) : Type 0 where
  pub same : new_name ≡ old_name
  pub own : new.hall ≡ old.hall
  pub view : new.view ≡ old.view

pub is_kept : (name : GName) (pass : Holding) → IsKept name pass name pass
is_kept name pass = record { same = refl; own = refl; view = refl }

-- what is sent after the rows of a table, by how these were sent: that it is whole, or why no further row comes, or
-- nothing if a write failed
abbrev pub EndsTable : Result ⊤ (RowsFault NextRowFault) → Result ⊤ Sent → Sending → Sending → Type 0
EndsTable (Ok done) result old new = Sends result end_frame old new
EndsTable (Err (Write fault)) result old new = (result ≡ Err fault) × (new ≡ old)
EndsTable (Err (Row fault)) result old new = Sends result (error_frame (code_of_line fault)) old new
