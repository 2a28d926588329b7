-- A slot of a hall: the book of its study, and what each call does to it.
use Rattle.std.specs.Prelude.{◌≡◌, ◌++◌, ◌<◌, ℕ, true, false, List, [], ◌∷◌, length, slice_get}
use Rattle.std.specs.Prelude.{Option, Some, None, is_some, Bool, ◌&&◌, not, nat_lt, if◌then◌else◌, Result, Ok, Err, ◌⊎◌, ⊤, slice_set}
use Rattle.std.specs.List.{list_any}
use Rattle.cut_faults.specs.declared.code.FaultCode.TheVariants as code
use Rattle.cut_plan.specs.Cells.{cells_of}
use Rattle.cut_plan.specs.Values.{Values}
use Rattle.cut_outcome.specs.declared.piece.Piece.{Piece}
use Rattle.cut_outcome.specs.Computed.{Computed}
use Rattle.cut_ledger.specs.declared.event.Event.TheVariants as event
use Rattle.cut_ledger.specs.declared.slip.Slip.{Slip}
use Rattle.cut_ledger.specs.declared.event.Reply.TheVariants as reply
use Rattle.cut_ledger.specs.Contents.{cell_done}
use Rattle.cut_ledger.specs.Machine.{StudyState, reply_to, after}
use Rattle.cut_book.specs.declared.call.Answer.TheVariants as answer
use Rattle.cut_book.specs.declared.call.Call.TheVariants as call
use Rattle.cut_book.specs.declared.fault.BookFault.TheVariants as book
use Rattle.cut_slots.specs.declared.next_row_fault.NextRowFault.{NextRowFault}
use Rattle.cut_slots.specs.declared.next_row_fault.NextRowFault.TheVariants as line
use Rattle.cut_book.specs.declared.opened.Opened.{Opened}
use Rattle.cut_slots.specs.declared.slot.CallFault.{CallFault}
use Rattle.cut_slots.specs.declared.slot.CallFault.TheVariants.{NoBook, Full, Refused}
use Rattle.cut_slots.specs.declared.slot.Match.{Match}
use Rattle.cut_slots.specs.declared.slot.Match.TheVariants.{Free, Same, Other}
use Rattle.cut_book.specs.Book.{BookValue, IsFresh, HandsIn, answer_of}
use Rattle.cut_book.specs.declared.shelf.ShelfFault.{ShelfFault}
use Rattle.cut_book.specs.declared.shelf.ShelfFault.TheVariants.{Open}
use Rattle.cut_book.specs.declared.submit_fault.SubmitFault.{SubmitFault}
use Rattle.cut_book.specs.declared.submit_fault.SubmitFault.TheVariants as submit

-- how many calls the book of a slot had; a slot without a book had none
abbrev pub calls_in : {D : Type 0} → Option (BookValue D) → ℕ
calls_in None = 0
calls_in (Some b) = length b.calls

-- whether it has a journal
abbrev pub has_journal_in : {D : Type 0} → Option (BookValue D) → Bool
has_journal_in None = false
has_journal_in (Some b) = is_some b.journal

-- a study is begun over what its shelf gave: with a journal exactly if that is a disk
abbrev pub IsBegunOver : {D : Type 0} → (Result (Option D) ShelfFault → Type 0) → Bool → Type 0
IsBegunOver {D} gives has_journal = (disk : Option D) × (gives (Ok disk) × (has_journal ≡ is_some disk))

-- why a study is not begun in a slot over what its shelf may give: memory ran out; or the checkpoint, and that only where
-- the shelf could not open the disk, or gave one
abbrev pub CanNotBegin : {D : Type 0} → (Result (Option D) ShelfFault → Type 0) → SubmitFault → Type 0
CanNotBegin gives submit.WorkMemory = ⊤
CanNotBegin gives submit.SlotsFull = ⊥
CanNotBegin {D} gives submit.Checkpoint = gives (Err Open) ⊎ ((disk : D) × gives (Ok (Some disk)))

-- why a hall takes no study: it is not begun, or every slot has another one, which says nothing of the shelf
abbrev pub CanNotTake : {D : Type 0} → (Result (Option D) ShelfFault → Type 0) → SubmitFault → Type 0
CanNotTake gives submit.WorkMemory = CanNotBegin gives submit.WorkMemory
CanNotTake gives submit.SlotsFull = ⊤
CanNotTake gives submit.Checkpoint = CanNotBegin gives submit.Checkpoint

-- the slips that it began with, and those that are kept of it
abbrev pub base_of : {D : Type 0} → Option (BookValue D) → List Slip
base_of None = []
base_of (Some b) = b.state.ledger.base

abbrev pub kept_of : {D : Type 0} → Option (BookValue D) → List Slip
kept_of None = []
kept_of (Some b) = b.state.kept

-- the slips that it began with if none are kept
abbrev pub unkept_of : {D : Type 0} → Option (BookValue D) → List Slip
unkept_of None = []
unkept_of (Some b) = if b.state.has_journal then [] else b.state.ledger.base

-- whether a slot is free, or has the book of a plan, or that of another
abbrev pub Matches : {D : Type 0} → Match → Option (BookValue D) → Values → Type 0
Matches Free None v = ⊤
Matches Same (Some b) v = b.state.ledger.plan ≡ v
Matches Other (Some b) v = b.state.ledger.plan ≡ v → ⊥
Matches found book v = ⊥

-- the slot's study is a fresh one, of the plan and the base that were opened
abbrev pub IsBegunStudy : {D : Type 0} → Opened → ℕ → Option (BookValue D) → Type 0
IsBegunStudy o size None = ⊥
IsBegunStudy o size (Some b) = IsFresh o.plan size b × (b.state.ledger.base ≡ o.base)

-- a result was handed in to the book; or there was none, or no call could be counted, and then nothing was done
abbrev pub TakesResult : {D : Type 0} → Result ⊤ CallFault → Computed → Option (BookValue D) → Option (BookValue D)
    → Type 0
TakesResult (Ok done) r (Some old) (Some new) = HandsIn (Some answer.Accepted) r old new
TakesResult (Err (Refused fault)) r (Some old) (Some new) =
    HandsIn (answer_of {T = ⊤} (Err fault) old.state) r old new
TakesResult (Err NoBook) r old new = (old ≡ None) × (new ≡ None)
TakesResult (Err Full) r old new = new ≡ old
TakesResult result r old new = ⊥

-- a piece was noted as lost; or it can't be, or there is no book, or no call could be counted, and then nothing
-- was done
abbrev pub TakesLoss : {D : Type 0} → Result ⊤ CallFault → ℕ → Option (BookValue D) → Option (BookValue D) → Type 0
TakesLoss (Ok done) piece (Some old) (Some new) =
    (reply_to old.state (event.Lose piece) ≡ reply.Noted)
    × (new ≡ record old {
      state = after old.state (event.Lose piece);
      calls = old.calls ++ call.Lose piece ∷ [];
    })
TakesLoss (Err (Refused fault)) piece (Some old) new =
    (fault ≡ book.BadPiece) × (reply_to old.state (event.Lose piece) ≡ reply.Refused code.BadPiece)
    × (new ≡ Some old)
TakesLoss (Err NoBook) piece old new = (old ≡ None) × (new ≡ None)
TakesLoss (Err Full) piece old new = new ≡ old
TakesLoss result piece old new = ⊥

-- a line was given, and the book had that call and is else as it was; or nothing was done
abbrev pub GivesLine : {T E D : Type 0} → Result (Option T) E → ℕ → Option (BookValue D) → Option (BookValue D) → Type 0
GivesLine (Ok (Some given)) cell (Some old) (Some new) =
    new ≡ record old { calls = old.calls ++ call.Row cell true ∷ [] }
GivesLine (Ok (Some given)) cell old new = ⊥
GivesLine result cell old new = new ≡ old

-- the book is that of an opened study: of its plan, and begun with its slips
abbrev pub IsOpenedAs : {D : Type 0} → Opened → BookValue D → Type 0
IsOpenedAs o b = (b.state.ledger.plan ≡ o.plan) × (b.state.ledger.base ≡ o.base)

-- what this fault says of a study whose cell is not done: an append failed; or else a piece is lost; or else
-- only that the work was ended
abbrev pub SaysWhyUndone : NextRowFault → StudyState → Type 0
SaysWhyUndone line.Checkpoint s = s.broken ≡ true
SaysWhyUndone line.WorkMemory s = (s.broken ≡ false) × (list_any (λ is_lost. is_lost) s.lost ≡ true)
SaysWhyUndone line.Stopped s = (s.broken ≡ false) × (list_any (λ is_lost. is_lost) s.lost ≡ false)
SaysWhyUndone line.AuditMismatch s = ⊥

-- how a slot answers who asks for the line of a cell of an opened study, by its book: there is none, or
-- another one; or the cell is done, and there is the line, or memory ran out for it, or no call could be
-- counted; or it is not done, and can still be, or can't, as the fault says
abbrev pub AnswersLine : {T D : Type 0} → Result (Option T) NextRowFault → Opened → ℕ → Option (BookValue D)
    → Type 0
AnswersLine (Ok (Some found)) o cell None = ⊥
AnswersLine (Ok (Some found)) o cell (Some b) = IsOpenedAs o b × (cell_done b.state.ledger cell ≡ true)
AnswersLine (Ok None) o cell None = ⊥
AnswersLine (Ok None) o cell (Some b) =
    IsOpenedAs o b × (cell_done b.state.ledger cell ≡ false)
    × (b.state.broken ≡ false) × (list_any (λ is_lost. is_lost) b.state.lost ≡ false)
AnswersLine (Err line.AuditMismatch) o cell None = ⊤
AnswersLine (Err fault) o cell None = ⊥
AnswersLine (Err line.AuditMismatch) o cell (Some b) = IsOpenedAs o b → ⊥
AnswersLine (Err line.Checkpoint) o cell (Some b) =
    IsOpenedAs o b × (cell_done b.state.ledger cell ≡ false) × (b.state.broken ≡ true)
AnswersLine (Err line.WorkMemory) o cell (Some b) =
    IsOpenedAs o b × (cell_done b.state.ledger cell ≡ false → SaysWhyUndone line.WorkMemory b.state)
AnswersLine (Err line.Stopped) o cell (Some b) =
    IsOpenedAs o b × (cell_done b.state.ledger cell ≡ false → SaysWhyUndone line.Stopped b.state)

-- how a slot answers who asks once more for a line that was given, by its book: there is none, or another one;
-- or the cell is done, and there is the line; or it was not given yet; or memory ran out
abbrev pub AnswersAgain : {T D : Type 0} → Result (Option T) NextRowFault → Opened → ℕ → Option (BookValue D)
    → Type 0
AnswersAgain (Err line.AuditMismatch) o cell None = ⊤
AnswersAgain result o cell None = ⊥
AnswersAgain (Ok (Some found)) o cell (Some b) = IsOpenedAs o b × (cell_done b.state.ledger cell ≡ true)
AnswersAgain (Ok None) o cell (Some b) = IsOpenedAs o b
AnswersAgain (Err line.AuditMismatch) o cell (Some b) = IsOpenedAs o b → ⊥
AnswersAgain (Err line.WorkMemory) o cell (Some b) = IsOpenedAs o b
AnswersAgain (Err other) o cell (Some b) = ⊥

-- there is a book, and this cell of it is not done
abbrev pub IsNotDone : {D : Type 0} → Option (BookValue D) → ℕ → Type 0
IsNotDone None cell = ⊥
IsNotDone (Some b) cell = cell_done b.state.ledger cell ≡ false

-- whether there is a book, this cell of it is not done, and nothing has happened by which it can't be
abbrev pub is_pending : {D : Type 0} → Option (BookValue D) → Bool → ℕ → Bool
is_pending None stopped cell = false
is_pending (Some b) stopped cell =
    nat_lt cell (length (cells_of b.state.ledger.plan)) && not (cell_done b.state.ledger cell)
    && not b.state.broken && not (list_any (λ is_lost. is_lost) b.state.lost) && not stopped

-- which lines are remembered as given, after one was asked for
abbrev pub remembered_after : {T E : Type 0} → Result (Option T) E → ℕ → List Bool → List Bool
remembered_after (Ok (Some line)) cell given = slice_set given cell true
remembered_after result cell given = given

-- the piece of a number, if there is a book and such a piece
abbrev pub piece_at : {D : Type 0} → Option (BookValue D) → ℕ → Option Piece
piece_at None number = None
piece_at (Some b) number = slice_get b.state.division number

-- there is a book, and this cell of it is done
abbrev pub HasDone : {D : Type 0} → Option (BookValue D) → ℕ → Type 0
HasDone None cell = ⊥
HasDone (Some b) cell =
    (cell < length (cells_of b.state.ledger.plan)) × (cell_done b.state.ledger cell ≡ true)

-- there is a book, of this plan
abbrev pub HasPlan : {D : Type 0} → Option (BookValue D) → Values → Type 0
HasPlan None v = ⊥
HasPlan (Some b) v = b.state.ledger.plan ≡ v

-- by noting a piece as lost: one if that was not refused
abbrev pub losses_of : {T E : Type 0} → Result T E → ℕ
losses_of (Ok done) = 1
losses_of (Err fault) = 0

-- asked for a line: one where there is a line
abbrev pub lines_of : {T E : Type 0} → Result (Option T) E → ℕ
lines_of (Ok (Some given)) = 1
lines_of result = 0
