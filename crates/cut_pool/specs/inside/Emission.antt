-- What only the crate's own clauses and proofs cite, beside specs/Emission.antt.
use Rattle.std.specs.Prelude.{◌≡◌, ◌+◌, ◌<◌, ◌≤◌, ℕ, List, length, take, Result, Ok, Err, ⊤}
use Rattle.std.specs.Borrow.{GName}
use Rattle.std.proofs.Common.{refl, arith}
use Rattle.cut_ledger.specs.declared.lines.line.TheConstants.{LONGEST_LINE}
use Rattle.cut_plan.specs.Cells.{cells_of}
use Rattle.cut_plan.specs.Values.{Values}
use Rattle.cut_plan.specs.Failing.{version_of}
use Rattle.cut_ledger.specs.lines.Lines.{header}
use Rattle.cut_ledger.specs.declared.slip.Slip.{Slip}
use Rattle.cut_wires.specs.declared.rows.RowsFault.{RowsFault}
use Rattle.cut_wires.specs.declared.rows.RowsFault.TheVariants.{Write, Row}
use Rattle.cut_wires.specs.Log.{WireLog, wrote, write_failed}
use Rattle.cut_wires.specs.Rows.{Table}
use Rattle.cut_slots.specs.declared.next_row_fault.NextRowFault.{NextRowFault}
use Rattle.cut_slots.specs.Lines.{full_line}
use Rattle.cut_slots.specs.Pass.{Holding}
use Rattle.cut_pool.specs.Emission.{WrotePrefix}

-- how many bytes of a whole are reported, and what the wire took: all of it; exactly as many of its first bytes and not
-- all if a write failed; and some first bytes if a line did not come
abbrev pub EmitsStudy : List ℕ → Result ℕ (RowsFault NextRowFault) → WireLog → WireLog → Type 0
EmitsStudy whole (Ok sent) old new = (sent ≡ length whole) × (new ≡ wrote old whole)
EmitsStudy whole (Err (Write fault)) old new =
    (fault.sent < length whole) × (new ≡ write_failed (wrote old (take fault.sent whole)))
EmitsStudy whole (Err (Row fault)) old new = WrotePrefix whole old new

-- how the writing of a table ended, by how the sending of its lines did, and by how many bytes were sent then
abbrev pub emit_result_of : {E : Type 0} → Result ⊤ E → ℕ → Result ℕ E
emit_result_of (Ok done) sent = Ok sent
emit_result_of (Err fault) sent = Err fault

-- the header, and the line of each cell over the slips that the study began with
abbrev pub lines_of : Values → List Slip → Table
lines_of v base = record {
  header = header (version_of v.failing);
  row = full_line v base;
  rows = length (cells_of v);
  longest = LONGEST_LINE;
}

-- the same pass has made at least this many calls more
pub record Worked (old_name : GName) (old : Holding) (calls : ℕ) (new_name : GName) (new : Holding) : Type 0 where
  pub same : new_name ≡ old_name
  pub own : new.hall ≡ old.hall
  pub made : old.made + calls ≤ new.made

-- at first none
pub begun : (name : GName) (pass : Holding) → Worked name pass 0 name pass
begun name pass = record { same = refl; own = refl; made = omega arith }
