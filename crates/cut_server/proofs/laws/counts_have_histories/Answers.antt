use Rattle.std.proofs.Common.{◌≡◌, ◌∙◌, ◌<◌, ℕ, List, Ok, Err, length, take, sym, ap, subst}
use Rattle.cut_wires.specs.Log.{wrote, write_failed}
use Rattle.cut_commands.specs.declared.fault.CliFault.TheVariants.{Memory, Plan, Read, Socket, Asked, Write, Journal}
use Rattle.cut_commands.specs.declared.fault.CliFault.TheVariants.{Folder, BadSlip, Store, Checkpoint, WorkMemory}
use Rattle.cut_commands.specs.declared.fault.CliFault.TheVariants.{AuditMismatch}
use Rattle.cut_server.specs.Histories.{CountsHaveHistories}
use Rattle.cut_server.specs.Serve.{AreAccepted, IsReport, accepted_line}
use Rattle.cut_server.proofs.Histories.{HaveEnds, ends_with}
use Rattle.cut_server.proofs.laws.counts_have_histories.Goals as goal

report_of : (studies : ℕ) (counts : List ℕ) → AreAccepted studies counts → (ends : HaveEnds counts)
    → IsReport studies ends.report
report_of studies counts are ends = record { slots = ends.slots ∙ are.slots; legal = ends.legal; few = ends.few }

histories : CountsHaveHistories
histories studies (Ok done) old new is =
    let ends = ends_with is.0 is.1.0.each in (
      ends.report,
      (
        report_of studies is.0 is.1.0 ends,
        is.1.1 ∙ ap (λ (n : ℕ). wrote old (accepted_line n)) (sym ends.total),
      ),
    )
histories studies (Err (Write fault)) old new is =
    let ends = ends_with is.0 is.1.0.each in (
      ends.report,
      (
        report_of studies is.0 is.1.0 ends,
        subst (λ (n : ℕ). (fault.sent < length (accepted_line n))
            × (new ≡ write_failed (wrote old (take fault.sent (accepted_line n))))) (sym ends.total) is.1.1,
      ),
    )
histories studies (Err Folder) old new is = is
histories studies (Err Socket) old new is = is
histories studies (Err WorkMemory) old new is = is
histories studies (Err AuditMismatch) old new is = is
histories studies (Err Memory) old new is = absurd is.1.1
histories studies (Err (Plan refusal)) old new is = absurd is.1.1
histories studies (Err Read) old new is = absurd is.1.1
histories studies (Err (Asked fault)) old new is = absurd is.1.1
histories studies (Err (Journal fault)) old new is = absurd is.1.1
histories studies (Err (BadSlip number)) old new is = absurd is.1.1
histories studies (Err (Store fault)) old new is = absurd is.1.1
histories studies (Err Checkpoint) old new is = absurd is.1.1

pub returns : goal.returns
returns c = histories
