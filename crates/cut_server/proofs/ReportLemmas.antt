-- What is said of a server's report where it is not returned.
use Rattle.std.proofs.Common.{◌≡◌, ◌∙◌, ◌<◌, ℕ, List, Ok, Err, map, length, take, sym, ap, subst}
use Rattle.std.specs.List.{sum}
use Rattle.std.proofs.lemmas.List.{length-map}
use Rattle.std.proofs.lemmas.List.Elements.{All-map}
use Rattle.std.proofs.lemmas.List.Sums.{sum-map}
use Rattle.cut_wires.specs.Log.{WireLog, wrote, write_failed}
use Rattle.cut_slots.specs.Report.{IsAcceptedCount, SlotEnd, accepted_recorded}
use Rattle.cut_commands.specs.declared.fault.CliFault.{CliFault}
use Rattle.cut_commands.specs.declared.fault.CliFault.TheVariants.{Memory, Plan, Read, Socket, Asked, Write, Journal}
use Rattle.cut_commands.specs.declared.fault.CliFault.TheVariants.{Folder, BadSlip, Store, Checkpoint, WorkMemory}
use Rattle.cut_commands.specs.declared.fault.CliFault.TheVariants.{AuditMismatch}
use Rattle.cut_server.specs.Serve.{AreAccepted, EndsServing, IsReport, WritesReport, accepted_in_all, accepted_line}

-- what each slot accepted
abbrev pub counts_of : List SlotEnd → List ℕ
counts_of report = map (λ (s : SlotEnd). accepted_recorded s.history) report

total : (report : List SlotEnd) → sum (counts_of report) ≡ accepted_in_all report
total report = sum-map (λ (s : SlotEnd). accepted_recorded s.history) report

are_accepted : (studies : ℕ) (report : List SlotEnd) → IsReport studies report → AreAccepted studies (counts_of report)
are_accepted studies report is = record {
  slots = length-map report (λ (s : SlotEnd). accepted_recorded s.history) ∙ is.slots;
  each = All-map IsAcceptedCount (λ (s : SlotEnd). accepted_recorded s.history) report is.few;
}

-- a report was written, and is not returned
pub ends_reported : (studies : ℕ) (report : List SlotEnd) (old new : WireLog) → WritesReport studies (Ok report) old new
    → EndsServing studies (Ok tt) old new
ends_reported studies report old new writes = (
  counts_of report,
  (
    are_accepted studies report writes.0,
    writes.1 ∙ ap (λ (n : ℕ). wrote old (accepted_line n)) (sym (total report)),
  ),
)

-- none was written, or a part of it
pub ends_faulty : (studies : ℕ) (fault : CliFault) (old new : WireLog)
    → WritesReport studies (Err fault) old new → EndsServing studies (Err fault) old new
ends_faulty studies (Write fault) old new writes = (
  counts_of writes.0,
  (
    are_accepted studies writes.0 writes.1.0,
    subst (λ (n : ℕ). (fault.sent < length (accepted_line n))
        × (new ≡ write_failed (wrote old (take fault.sent (accepted_line n)))))
        (sym (total writes.0)) writes.1.1,
  ),
)
ends_faulty studies Folder old new writes = writes
ends_faulty studies Socket old new writes = writes
ends_faulty studies WorkMemory old new writes = writes
ends_faulty studies AuditMismatch old new writes = writes
ends_faulty studies Memory old new writes = absurd writes
ends_faulty studies (Plan refusal) old new writes = absurd writes
ends_faulty studies Read old new writes = absurd writes
ends_faulty studies (Asked fault) old new writes = absurd writes
ends_faulty studies (Journal fault) old new writes = absurd writes
ends_faulty studies (BadSlip number) old new writes = absurd writes
ends_faulty studies (Store fault) old new writes = absurd writes
ends_faulty studies Checkpoint old new writes = absurd writes
