-- What a run of a study answers, by how the writing of its table ended and how its hall was closed.
use Rattle.std.specs.List.{list_all}
use Rattle.std.specs.Result.{result_err}
use Rattle.std.specs.Prelude.{◌≡◌, ℕ, Bool, true, IsTrue, if◌then◌else◌, List, All, Result, Ok, Err, ⊤}
use Rattle.cut_plan.specs.Values.{Values}
use Rattle.cut_ledger.specs.declared.slip.Slip.{Slip}
use Rattle.cut_ledger.specs.Slips.{IsFirstBad}
use Rattle.cut_wires.specs.declared.rows.RowsFault.{RowsFault}
use Rattle.cut_wires.specs.declared.rows.RowsFault.TheVariants as rows
use Rattle.cut_slots.specs.declared.next_row_fault.NextRowFault.{NextRowFault}
use Rattle.cut_pool.specs.declared.run_fault.RunFault.{RunFault}
use Rattle.cut_pool.specs.declared.run_fault.RunFault.TheVariants.{BadSlip, Checkpoint, Write, WorkMemory}
use Rattle.cut_pool.specs.declared.run_fault.RunFault.TheVariants.{AuditMismatch}
use Rattle.cut_pool.specs.declared.study_run.Done.{Done}
use Rattle.cut_pool.specs.inside.Faults.{of_line}
use Rattle.cut_slots.specs.Report.{SlotEnd}

-- why a run did not begin: if memory ran out, which says nothing of the slips, or for the first bad slip
abbrev pub IsNotBegun : Values → List Slip → RunFault → Type 0
IsNotBegun v slips WorkMemory = ⊤
IsNotBegun v slips (BadSlip number) = IsFirstBad v slips number
IsNotBegun v slips other = ⊥

-- why its hall was not closed
abbrev pub IsNotEnded : RunFault → Type 0
IsNotEnded WorkMemory = ⊤
IsNotEnded AuditMismatch = ⊤
IsNotEnded other = ⊥

-- a write did not fail
abbrev pub NoWriteFailed : Result ℕ (RowsFault NextRowFault) → Type 0
NoWriteFailed (Err (rows.Write fault)) = ⊥
NoWriteFailed sent = ⊤

-- what a run answers if a line did not come: Checkpoint only of a study that is broken, and no fault of a write or a slip
abbrev pub CanLose : RunFault → Bool → Type 0
CanLose WorkMemory is_broken = ⊤
CanLose AuditMismatch is_broken = ⊤
CanLose Checkpoint is_broken = IsTrue is_broken
CanLose other is_broken = ⊥

-- the answer if the whole table was sent, and the hall was closed with a report: a trial that is not held at the end of
-- a slot is a mismatch
abbrev pub audited : ℕ → List SlotEnd → Result Done RunFault
audited sent report =
    if list_all (λ slot. slot.complete) report then Ok (record { sent = sent; report = report }) else Err AuditMismatch

-- the answer: the first that went wrong of the sending, the closing and the audit
abbrev pub conclusion : Result ℕ (RowsFault NextRowFault) → Result (List SlotEnd) RunFault → Bool → Result Done RunFault
conclusion (Ok sent) (Ok report) is_broken = audited sent report
conclusion (Ok sent) (Err fault) is_broken = Err fault
conclusion (Err (rows.Write fault)) closed is_broken = Err (Write fault)
conclusion (Err (rows.Row fault)) closed is_broken = Err (of_line fault (result_err closed) is_broken)

-- what is known of it: done if all was sent, and the hall was closed with every trial held; a write that failed as it
-- is; and else another fault, Checkpoint only of a study that is broken
abbrev pub Concludes : Result ℕ (RowsFault NextRowFault) → Result (List SlotEnd) RunFault → Bool → Result Done RunFault
    → Type 0
Concludes sent closed is_broken (Ok d) =
    (sent ≡ Ok d.sent) × (closed ≡ Ok d.report) × All (λ slot. slot.complete ≡ true) d.report
Concludes sent closed is_broken (Err (Write fault)) = sent ≡ Err (rows.Write fault)
Concludes sent closed is_broken (Err Checkpoint) = NoWriteFailed sent × IsTrue is_broken
Concludes sent closed is_broken (Err WorkMemory) = NoWriteFailed sent
Concludes sent closed is_broken (Err AuditMismatch) = NoWriteFailed sent
Concludes sent closed is_broken (Err (BadSlip number)) = ⊥
