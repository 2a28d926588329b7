-- Results that are refused before their append.
use Rattle.std.proofs.Common.{◌≡◌, ◌∙◌, ℕ, Bool, List, Option, sym, ap, refl, arith}
use Rattle.cut_outcome.specs.Computed.{Computed}
use Rattle.cut_outcome.specs.declared.piece.Piece.{Piece}
use Rattle.cut_ledger.specs.declared.slip.Slip.{Slip}
use Rattle.cut_ledger.specs.Contents.{Contents}
use Rattle.cut_ledger.specs.Machine.{StudyState, slip_of}
use Rattle.cut_journal.specs.Journal.{JournalValue}
use Rattle.cut_book.specs.declared.call.Answer.{Answer}
use Rattle.cut_book.specs.declared.call.Answer.TheVariants.{Accepted, DiskFails}
use Rattle.cut_book.specs.declared.call.Call.{Call}
use Rattle.cut_book.specs.History.{HistoryValue, Opening, accepted_slip}
use Rattle.cut_book.specs.Book.{GivesAnswer, JournalAfter, hand_in_of}
use Rattle.cut_book.specs.inside.Book.{IsRefused, book_value_in, state_in}
use Rattle.cut_book.specs.inside.HistoryInside.{Noted}
use Rattle.cut_book.proofs.Legal.{state_same}

-- a refused result leaves the journal as it is
same_journal : {D : Type 0} {s : StudyState} {r : Computed} (a : Answer) (slip : Slip)
    (journal : Option (JournalValue D)) → IsRefused s r a → JournalAfter a slip journal journal
same_journal Accepted slip journal is = absurd (let slips = is.slips in let no : ⊥ = cc in no)
same_journal DiskFails slip journal is = absurd (let same = is.same_faults 0 in let no : ⊥ = omega arith in no)
same_journal refused slip journal is = refl

-- it gets its answer, and nothing changes but the calls
pub refused_hands : {D : Type 0} {journal : Option (JournalValue D)} {l : Contents} {division : List Piece}
    {lost : List Bool} {broken : Bool} {failed : ℕ} {r : Computed} {a : Answer} {call : Call} {old new : HistoryValue}
    → IsRefused (state_in l journal division lost old broken) r a → Noted call old new
    → call ≡ hand_in_of (state_in l journal division lost old broken) r a
    → GivesAnswer a r (book_value_in journal (state_in l journal division lost old broken) old failed)
    (book_value_in journal (state_in l journal division lost new broken) new failed)
refused_hands {journal = journal} {r = r} {a = a} is adds called = record {
  answered = is.answered;
  state = state_same _ journal _ _ _ adds (ap accepted_slip called ∙ is.slips) ∙ sym is.state;
  calls = rw called at adds.calls;
  journal = same_journal a (slip_of r) journal is;
  size = ap (λ (o : Opening). o.size) adds.opening;
  failed = refl;
}
