-- What only the crate's own clauses and proofs cite, beside specs/Faults.antt.
use Rattle.std.specs.Prelude.{Bool, true, false, List, Option, Result, Ok, Err, unwrap_or}
use Rattle.cut_slots.specs.declared.next_row_fault.NextRowFault.{NextRowFault}
use Rattle.cut_slots.specs.declared.next_row_fault.NextRowFault.TheVariants as line
use Rattle.cut_slots.specs.declared.not_closed.NotClosed.{NotClosed}
use Rattle.cut_slots.specs.declared.not_closed.NotClosed.TheVariants as closing
use Rattle.cut_slots.specs.Report.{SlotEnd}
use Rattle.cut_pool.specs.declared.run_fault.RunFault.{RunFault}
use Rattle.cut_pool.specs.declared.run_fault.RunFault.TheVariants as run

-- why a run ended if a line did not come, by why, by what kept its hall from being closed, if anything did, and by
-- whether an append of the study failed
abbrev pub of_line : NextRowFault → Option RunFault → Bool → RunFault
of_line line.WorkMemory not_closed is_broken = run.WorkMemory
of_line line.Checkpoint not_closed true = run.Checkpoint
of_line line.Checkpoint not_closed false = run.AuditMismatch
of_line line.Stopped not_closed is_broken = unwrap_or not_closed run.AuditMismatch
of_line line.AuditMismatch not_closed is_broken = run.AuditMismatch

-- and if its hall was not closed; passes are missing only if memory ran out
abbrev pub of_closing : {T : Type 0} → NotClosed T → RunFault
of_closing (closing.AuditMismatch mismatch) = run.AuditMismatch
of_closing closing.Memory = run.WorkMemory
of_closing (closing.SeatMissing back) = run.WorkMemory

-- the report of a hall that was closed, or why a run ends whose hall was not
abbrev pub closed_as : {T : Type 0} → Result (List SlotEnd) (NotClosed T) → Result (List SlotEnd) RunFault
closed_as (Ok report) = Ok report
closed_as (Err not_closed) = Err (of_closing not_closed)
