-- Results whose slip is appended.
use Rattle.std.proofs.Common.{◌≡◌, ◌∙◌, ℕ, Bool, true, List, Option, Some, None}
use Rattle.std.proofs.Common.{is_some, refl, sym, ap, arith}
use Rattle.cut_faults.specs.Failures.{one_more}
use Rattle.cut_outcome.specs.Computed.{Computed}
use Rattle.cut_outcome.specs.declared.piece.Piece.{Piece}
use Rattle.cut_disks.specs.Log.{DiskLog}
use Rattle.cut_ledger.specs.declared.event.Event.TheVariants as event
use Rattle.cut_ledger.specs.Contents.{Contents, with_piece}
use Rattle.cut_ledger.specs.Machine.{StudyState, after, slip_of}
use Rattle.cut_ledger.specs.Refusals.{refusal_of}
use Rattle.cut_ledger.specs.World.{HasTrueResult}
use Rattle.cut_journal.specs.Journal.{JournalValue}
use Rattle.cut_book.specs.declared.call.Answer.TheVariants.{Accepted, DiskFails}
use Rattle.cut_book.specs.declared.call.Call.{Call}
use Rattle.cut_book.specs.History.{Opening, HistoryValue, IsAnswer, accepted_slip}
use Rattle.cut_book.specs.Book.{FollowsState, failures_of, hand_in_of}
use Rattle.cut_book.specs.Kept.{doubtful_in}
use Rattle.cut_book.specs.inside.Book.{IsAppended, IsBook, IsFree, state_in}
use Rattle.cut_book.specs.inside.HistoryInside.{IsReserved, Noted}
use Rattle.cut_book.proofs.Legal.{kept_next, no_doubt, noted, result_step, state_same, stepped}

-- ---- what is answered

pub accepted_answer : {s : StudyState} {r : Computed} → IsFree s r → IsAnswer s r Accepted
accepted_answer is = record { reply = rw is.code; disk = tt }

pub failed_answer : {s : StudyState} {r : Computed} → IsFree s r → s.has_journal ≡ true → IsAnswer s r DiskFails
failed_answer is has = record { reply = rw is.code; disk = (has, is.unbroken) }

-- ---- books

module _ {D : Type 0} {log_of : D → DiskLog} {journal now : Option (JournalValue D)} {l held : Contents}
    {division : List Piece} {lost : List Bool} {broken : Bool} {r : Computed} {call : Call} {old mid new : HistoryValue}
    {places count : ℕ} where
  -- the disk failed
  pub failed_book : IsBook log_of journal (state_in l journal division lost old broken) old places count
      → IsReserved old mid → Noted call mid new → new.room ≡ mid.room
      → IsFree (state_in l journal division lost old broken) r → HasTrueResult (event.HandIn r)
      → held ≡ l → call ≡ hand_in_of (state_in l journal division lost old broken) r DiskFails
      → IsAppended (Some (slip_of r)) r.plan journal now → is_some journal ≡ true
      → ((x : StudyState) → refusal_of x.ledger r ≡ None → FollowsState log_of journal x
      → FollowsState log_of now (after x (event.HandInDiskFails r)))
      → failures_of log_of now ≡ one_more (failures_of log_of journal)
      → IsBook log_of now (state_in held now division lost new true) new places count
  failed_book book room adds left free real holds called appended some follows counted =
      let s : StudyState = state_in l journal division lost old broken in
      let t : StudyState = state_in l now division lost new true in
      let is : Noted call old new = noted room adds in
      let next : t ≡ after s (event.HandInDiskFails r) =
      state_same l now division lost true is (ap accepted_slip called) ∙ rw (free.code, appended.doubt) in
      let step = result_step call called real (failed_answer free (book.has_journal ∙ some)) in
      rw holds (stepped book is (rw next step) refl refl refl refl book.losable
      (omega (arith, left, room.room, book.room)) (ap (λ (o : Opening). o.has_journal) is.opening) appended.some
      (rw free.fits.plan at appended.plan) (ap is_some (sym appended.doubt))
      (rw next (follows s free.fine book.followed)) (rw (counted, book.failures, free.unbroken)))

  -- the result was entered
  pub accepted_book : IsBook log_of journal (state_in l journal division lost old broken) old places count
      → IsReserved old mid → Noted call mid new → new.room ≡ mid.room
      → IsFree (state_in l journal division lost old broken) r → HasTrueResult (event.HandIn r)
      → held ≡ with_piece l r.piece → call ≡ hand_in_of (state_in l journal division lost old broken) r Accepted
      → IsAppended None r.plan journal now
      → ((x : StudyState) → refusal_of x.ledger r ≡ None → FollowsState log_of journal x
      → FollowsState log_of now (after x (event.HandIn r)))
      → failures_of log_of now ≡ failures_of log_of journal
      → IsBook log_of now (state_in held now division lost new broken) new places count
  accepted_book book room adds left free real holds called appended follows counted =
      let s : StudyState = state_in l journal division lost old broken in
      let t : StudyState = state_in held now division lost new broken in
      let is : Noted call old new = noted room adds in
      let before = no_doubt (doubtful_in journal) (sym book.broken ∙ free.unbroken) in
      let next : t ≡ after s (event.HandIn r) =
      rw (free.code, holds, kept_next is, is.opening, ap accepted_slip called, appended.doubt, before) in
      stepped book is (rw next (result_step call called real (accepted_answer free)))
      (ap (λ (x : Contents). x.plan) holds) (ap (λ (x : Contents). x.base) holds) refl refl book.losable
      (omega (arith, left, room.room, book.room)) (ap (λ (o : Opening). o.has_journal) is.opening) appended.some
      (rw free.fits.plan at appended.plan) (free.unbroken ∙ ap is_some (sym appended.doubt))
      (rw next (follows s free.fine book.followed)) (counted ∙ book.failures)
