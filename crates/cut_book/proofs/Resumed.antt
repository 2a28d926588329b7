-- What a crash leaves of a disk of which nothing is asked.
use Rattle.std.proofs.Common.{◌≡◌, ℕ, List, [], Option, Some, None, IfSome}
use Rattle.std.proofs.Common.{unwrap_or, refl, arith}
use Rattle.cut_plan.specs.Values.{Values}
use Rattle.cut_outcome.specs.Computed.{Computed}
use Rattle.cut_disks.specs.State.{DiskState, IsImage, Throughout}
use Rattle.cut_disks.specs.Log.{DiskLog, IsKnown, on}
use Rattle.cut_ledger.specs.declared.slip.Slip.{Slip}
use Rattle.cut_ledger.specs.declared.offer_fault.OfferFault.{OfferFault}
use Rattle.cut_ledger.specs.declared.event.Event.TheVariants.{HandInDiskFails}
use Rattle.cut_ledger.specs.Machine.{StudyState, after, slip_of}
use Rattle.cut_ledger.specs.Refusals.{refusal_of}
use Rattle.cut_journal.specs.Journal.{JournalValue, kept_slips, ReadsAs, IsFileOf}
use Rattle.cut_journal.specs.Laws.{IsJournalOf, IsResumed, CrashesBetweenCalls, CrashesInAppends}
use Rattle.cut_book.specs.Book.{FollowsState, LeavesResumed}
use Rattle.cut_journal.proofs.Appends.{reads_more}

-- between two calls the moment is one
at_rest : (d : DiskState) (P : List ℕ → Type 0) → ((image : List ℕ) → IsImage d.stable image → P image)
    → Throughout d d P
at_rest d P images = record { since = []; goes_on = refl; each = (images, tt) }

resumable_by : (v : Values) (count : ℕ) (doubtful : Option Slip) (d : DiskState) (s : StudyState) (r : Computed)
    (o : Option OfferFault) → refusal_of s.ledger r ≡ o → CrashesBetweenCalls → CrashesInAppends
    → IsFileOf v count doubtful d → IsJournalOf v count doubtful d s
    → Throughout d d (IsResumed v (after s (HandInDiskFails r)))
resumable_by v count doubtful d s r None fine between within sound of =
    within v count doubtful d d s r of fine
    (at_rest d (ReadsAs v (kept_slips v count d) (Some (unwrap_or doubtful (slip_of r))))
    (λ image is. reads_more v (kept_slips v count d) doubtful (slip_of r) image (sound.images image is)))
resumable_by v count doubtful d s r (Some fault) refused between within sound of =
    grind (arith, at_rest d (IsResumed v s) (between v count doubtful d s sound of))

-- a journal that is as it was leaves a run that is resumed, also after a result's append failed
pub resumable : {D : Type 0} (log_of : D → DiskLog) (journal : Option (JournalValue D))
    (log : JournalValue D) (s : StudyState) (r : Computed) → CrashesBetweenCalls → CrashesInAppends
    → journal ≡ Some log → (IsKnown (log_of log.disk) → IsFileOf log.plan log.count log.doubtful (on (log_of log.disk)))
    → FollowsState log_of journal s
    → LeavesResumed log_of journal journal (after s (HandInDiskFails r))
resumable log_of journal log s r between within is sound = rw is
    (λ of good. resumable_by log.plan log.count log.doubtful (on (log_of log.disk)) s r (refusal_of s.ledger r) refl
    between within (sound good) (of good))

-- and a run that is resumed as it is
pub resumed_now : {D : Type 0} (log_of : D → DiskLog) (journal : Option (JournalValue D))
    (log : JournalValue D) (s : StudyState) → CrashesBetweenCalls
    → journal ≡ Some log → (IsKnown (log_of log.disk) → IsFileOf log.plan log.count log.doubtful (on (log_of log.disk)))
    → FollowsState log_of journal s
    → IfSome journal (λ l. IsKnown (log_of l.disk) → (image : List ℕ) → IsImage (on (log_of l.disk)).stable image
    → IsResumed l.plan s image)
resumed_now log_of journal log s between is sound = rw is
    (λ of good. between log.plan log.count log.doubtful (on (log_of log.disk)) s (sound good) (of good))

-- in an append of a result that the ledger takes
pub resumed_append : {D : Type 0} (log_of : D → DiskLog) (journal : Option (JournalValue D))
    (old new : JournalValue D) (s : StudyState) (r : Computed) → CrashesInAppends → journal ≡ Some old
    → (IsKnown (log_of old.disk) → Throughout (on (log_of old.disk)) (on (log_of new.disk)) (ReadsAs old.plan
    (kept_slips old.plan old.count (on (log_of old.disk))) (Some (unwrap_or old.doubtful (slip_of r)))))
    → refusal_of s.ledger r ≡ None → FollowsState log_of journal s
    → LeavesResumed log_of journal (Some new) (after s (HandInDiskFails r))
resumed_append log_of journal old new s r within is moments fine = rw is
    (λ of good. within old.plan old.count old.doubtful (on (log_of old.disk)) (on (log_of new.disk)) s r (of good) fine
    (moments good))
