-- How a run of a study ends, by how the writing of its table ended and how its hall was closed.
use Rattle.std.proofs.Common.{◌≡◌, ◌∙◌, ◌≤◌, ℕ, Bool, true, List, Result, Ok, Err, IsTrue, length}
use Rattle.std.proofs.Common.{inr, sym, ap, subst, arith, take_all}
use Rattle.std.specs.Prelude.{IfOk, OnOk}
use Rattle.cut_plan.specs.Values.{Values}
use Rattle.cut_plan.specs.Cells.{cells_of}
use Rattle.cut_ledger.specs.declared.slip.Slip.{Slip}
use Rattle.cut_ledger.specs.Table.{table_over}
use Rattle.cut_ledger.specs.Slips.{AreGood}
use Rattle.cut_wires.specs.Log.{WireLog, wrote}
use Rattle.cut_wires.specs.declared.rows.RowsFault.{RowsFault}
use Rattle.cut_wires.specs.declared.rows.RowsFault.TheVariants as rows
use Rattle.cut_slots.specs.declared.next_row_fault.NextRowFault.{NextRowFault}
use Rattle.cut_pool.specs.declared.run_fault.RunFault.{RunFault}
use Rattle.cut_pool.specs.declared.run_fault.RunFault.TheVariants.{BadSlip, Checkpoint, Write, WorkMemory}
use Rattle.cut_pool.specs.declared.run_fault.RunFault.TheVariants.{AuditMismatch}
use Rattle.cut_pool.specs.declared.study_run.Done.{Done}
use Rattle.cut_pool.specs.inside.Conclusion.{NoWriteFailed, Concludes}
use Rattle.cut_pool.specs.Emission.{WrotePrefix}
use Rattle.cut_pool.specs.inside.Emission.{EmitsStudy}
use Rattle.cut_slots.specs.Report.{SlotEnd, AreOpenedBy, calls_in_all}
use Rattle.cut_pool.specs.Running.{HasEnded, Takes}

-- where no write failed, some first bytes were written
prefix_by : (whole : List ℕ) (sent : Result ℕ (RowsFault NextRowFault)) (old new : WireLog) → NoWriteFailed sent
    → EmitsStudy whole sent old new → WrotePrefix whole old new
prefix_by whole (Ok n) old new fine emits =
    (length whole, emits.1 ∙ ap (λ (xs : List ℕ). wrote old xs) (sym (take_all (length whole) whole (omega arith))))
prefix_by whole (Err (rows.Write f)) old new fine emits = absurd fine
prefix_by whole (Err (rows.Row fault)) old new fine emits = emits

module _ (v : Values) (slips : List Slip) (has_journal is_broken : Bool) (size : ℕ)
    (sent : Result ℕ (RowsFault NextRowFault))
    (closed : Result (List SlotEnd) RunFault) where
  pub ended : (result : Result Done RunFault) (old new : WireLog) → AreGood v slips
      → EmitsStudy (table_over v slips) sent old new
      → IfOk closed (λ report. length report ≡ 1)
      → IfOk closed (λ report. AreOpenedBy (record { plan = v; has_journal = has_journal; base = slips; size = size }) report)
      → OnOk sent (IfOk closed (λ report. length (cells_of v) ≤ calls_in_all report))
      → (is_broken ≡ true → IsTrue has_journal)
      → Concludes sent closed is_broken result → HasEnded v slips has_journal size result
  ended (Ok d) old new good emits one opened calls some is =
      let all : IfOk closed (λ report. length (cells_of v) ≤ calls_in_all report) = rw is.0 at calls in (
        good,
        (subst (λ (s : Result ℕ (RowsFault NextRowFault)). EmitsStudy (table_over v slips) s old new) is.0 emits).0,
        record {
          one = subst (λ (c : Result (List SlotEnd) RunFault). IfOk c (λ report. length report ≡ 1)) is.1 one;
          opened =
              subst (λ (c : Result (List SlotEnd) RunFault). IfOk c (λ report. AreOpenedBy
              (record { plan = v; has_journal = has_journal; base = slips; size = size }) report)) is.1 opened;
          complete = is.2;
          lines =
              subst (λ (c : Result (List SlotEnd) RunFault). IfOk c (λ report. length (cells_of v) ≤ calls_in_all report))
              is.1 all;
        },
      )
  ended (Err (BadSlip n)) old new good emits one opened calls some is = absurd is
  ended (Err Checkpoint) old new good emits one opened calls some is = (good, some is.1)
  ended (Err (Write fault)) old new good emits one opened calls some is =
      (good, (subst (λ (s : Result ℕ (RowsFault NextRowFault)). EmitsStudy (table_over v slips) s old new) is emits).0)
  ended (Err WorkMemory) old new good emits one opened calls some is = tt
  ended (Err AuditMismatch) old new good emits one opened calls some is = good

  pub takes : (result : Result Done RunFault) (old new : WireLog) → AreGood v slips
      → EmitsStudy (table_over v slips) sent old new → Concludes sent closed is_broken result
      → Takes v slips result old new
  takes (Ok d) old new good emits is =
      (subst (λ (s : Result ℕ (RowsFault NextRowFault)). EmitsStudy (table_over v slips) s old new) is.0 emits).1
  takes (Err (BadSlip n)) old new good emits is = absurd is
  takes (Err Checkpoint) old new good emits is = prefix_by (table_over v slips) sent old new is.0 emits
  takes (Err (Write fault)) old new good emits is =
      (subst (λ (s : Result ℕ (RowsFault NextRowFault)). EmitsStudy (table_over v slips) s old new) is emits).1
  takes (Err WorkMemory) old new good emits is = inr (good, prefix_by (table_over v slips) sent old new is emits)
  takes (Err AuditMismatch) old new good emits is = prefix_by (table_over v slips) sent old new is emits
