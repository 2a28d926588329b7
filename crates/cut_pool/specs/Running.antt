-- How a study ends that is run from its beginning, or from its slips, to its end.
use Rattle.std.specs.Prelude.{◌≡◌, ◌⊎◌, ◌<◌, ◌≤◌, ℕ, Bool, true, IsTrue, List, [], All, length, take, Option, Some, None, Vec}
use Rattle.std.specs.Prelude.{Result, Ok, Err, ⊤}
use Rattle.cut_plan.specs.Values.{Values}
use Rattle.cut_plan.specs.Cells.{cells_of}
use Rattle.cut_ledger.specs.declared.slip.Slip.{Slip}
use Rattle.cut_ledger.specs.Table.{table_over}
use Rattle.cut_ledger.specs.Slips.{AreGood, IsFirstBad}
use Rattle.cut_wires.specs.Log.{WireLog, wrote, write_failed}
use Rattle.cut_pool.specs.Emission.{WrotePrefix}
use Rattle.cut_book.specs.History.{Opening}
use Rattle.cut_slots.specs.Report.{SlotEnd, AreOpenedBy, calls_in_all}
use Rattle.cut_pool.specs.declared.run_fault.RunFault.{RunFault}
use Rattle.cut_pool.specs.declared.run_fault.RunFault.TheVariants.{BadSlip, Checkpoint, Write, WorkMemory}
use Rattle.cut_pool.specs.declared.run_fault.RunFault.TheVariants.{AuditMismatch}
use Rattle.cut_pool.specs.declared.study_run.Done.{Done}

-- the slips with which a study begins: those of its journal, or none
abbrev pub slips_of : {J A : Type 0} → Option (J × Vec Slip A) → List Slip
slips_of None = []
slips_of (Some kept) = kept.1.items

-- the report of a study that was opened so: it is of one slot, which had that study and no other, all of whose trials
-- were held at the end, and whose history has at least a call for each line
pub record IsReportOf (opening : Opening) (report : List SlotEnd) : Type 0 where
  pub one : length report ≡ 1
  pub opened : AreOpenedBy opening report
  pub complete : All (λ slot. slot.complete ≡ true) report
  pub lines : length (cells_of opening.plan) ≤ calls_in_all report

-- how a study of a plan over slips ended, with a journal or without one, in pieces of this size: all of its table was
-- sent, and its report is of that study; or the first bad slip was found; or a write failed before the last byte; or the
-- journal's disk failed; or the audit; or memory ran out
abbrev pub HasEnded : Values → List Slip → Bool → ℕ → Result Done RunFault → Type 0
HasEnded v slips has_journal size (Ok d) =
    AreGood v slips × (d.sent ≡ length (table_over v slips))
    × IsReportOf (record { plan = v; has_journal = has_journal; base = slips; size = size }) d.report
HasEnded v slips has_journal size (Err (BadSlip number)) = IsFirstBad v slips number
HasEnded v slips has_journal size (Err Checkpoint) = AreGood v slips × IsTrue has_journal
HasEnded v slips has_journal size (Err (Write fault)) =
    AreGood v slips × (fault.sent < length (table_over v slips))
HasEnded v slips has_journal size (Err WorkMemory) = ⊤
HasEnded v slips has_journal size (Err AuditMismatch) = AreGood v slips

-- what the wire took then, and whether a write failed: the table over the slips at Ok, exactly as many of its first
-- bytes as are reported if a write failed, nothing if a slip is bad, and else some first bytes of it
abbrev pub Takes : Values → List Slip → Result Done RunFault → WireLog → WireLog → Type 0
Takes v slips (Ok d) old new = new ≡ wrote old (table_over v slips)
Takes v slips (Err (BadSlip number)) old new = new ≡ old
Takes v slips (Err (Write fault)) old new = new ≡ write_failed (wrote old (take fault.sent (table_over v slips)))
Takes v slips (Err WorkMemory) old new = (new ≡ old) ⊎ (AreGood v slips × WrotePrefix (table_over v slips) old new)
Takes v slips (Err Checkpoint) old new = WrotePrefix (table_over v slips) old new
Takes v slips (Err AuditMismatch) old new = WrotePrefix (table_over v slips) old new
