-- A turn of a worker: what it draws in a slot, how it hands a result in, and how it goes on.
use Rattle.std.specs.Prelude.{◌≡◌, ◌⊎◌, ℕ, Bool, true, false, IsSome, Option, Some, None, MatchOption, Result, Ok, Err, ⊤}
use Rattle.cut_outcome.specs.Computed.{Computed}
use Rattle.cut_board.specs.declared.view.View.{View}
use Rattle.cut_board.specs.Refusals.{draw_refusal, count_refusal}
use Rattle.cut_board.specs.Views.{drew, counted}
use Rattle.cut_book.specs.Book.{BookValue}
use Rattle.cut_book.specs.declared.fault.BookFault.TheVariants as book
use Rattle.cut_slots.specs.declared.slot.CallFault.{CallFault}
use Rattle.cut_slots.specs.declared.slot.CallFault.TheVariants.{NoBook, Full, Refused}
use Rattle.cut_slots.specs.declared.turn.Drawn.{Drawn}
use Rattle.cut_slots.specs.declared.turn.Next.{Next}
use Rattle.cut_slots.specs.declared.turn.Next.TheVariants as next
use Rattle.cut_slots.specs.Slot.{TakesResult, TakesLoss, piece_at}

-- how a worker goes on after a call of a study's book: not at all if no further call can be counted; with another study
-- if this one's disk has failed; and else with its next piece
abbrev pub next_after : Result ⊤ CallFault → Next
next_after (Err Full) = next.Nothing
next_after (Err (Refused book.Checkpoint)) = next.Study
next_after outcome = next.Piece

-- what a worker draws in a slot of a hall of this many: a piece of its book, by the number that the seat drew; no
-- number if the work is ended or the seat may draw no more; and no piece if there is no book, for which no number is
-- drawn, or none of the number that was drawn
abbrev pub DrawsPiece : {D : Type 0} → Result Drawn Next → ℕ → ℕ → Option (BookValue D) → Bool → View → View → Type 0
DrawsPiece (Ok drawn) slots study b stopped old new =
    (stopped ≡ false) × (drawn.study ≡ study) × (piece_at b drawn.number ≡ Some drawn.piece)
    × (new ≡ drew old study drawn.number)
DrawsPiece (Err next.Nothing) slots study b stopped old new =
    ((stopped ≡ true) ⊎ IsSome (draw_refusal slots old study)) × (new ≡ old)
DrawsPiece (Err next.Study) slots study b stopped old new =
    (stopped ≡ false) × (((b ≡ None) × (new ≡ old))
    ⊎ (IsSome b × ((number : ℕ) × ((piece_at b number ≡ None) × (new ≡ drew old study number)))))
DrawsPiece (Err next.Piece) slots study b stopped old new = ⊥

-- a result that is not accepted, and of which nothing is left to be done: there is no book, or it refused it as one
-- of another plan or for trials that it holds
abbrev pub IsPassedOver : CallFault → Type 0
IsPassedOver NoBook = ⊤
IsPassedOver (Refused book.Stranger) = ⊤
IsPassedOver (Refused book.Overlap) = ⊤
IsPassedOver fault = ⊥

-- a loss was noted, or can't be, as the piece is lost already
abbrev pub IsNoted : Result ⊤ CallFault → Type 0
IsNoted (Ok done) = ⊤
IsNoted (Err (Refused fault)) = ⊤
IsNoted (Err fault) = ⊥

-- the result of the piece of this number was handed in to a slot's book: it was accepted; or no call could be counted,
-- and nothing was done; or the disk failed, now or earlier; or it was passed over; or memory ran out for it, and the
-- piece is lost
abbrev pub TakesDrawn : {D : Type 0} → Result ⊤ Next → ℕ → Computed → Option (BookValue D) → Option (BookValue D)
    → Type 0
TakesDrawn (Ok done) number r old new = TakesResult (Ok done) r old new
TakesDrawn (Err next.Nothing) number r old new = new ≡ old
TakesDrawn (Err next.Study) number r old new = TakesResult (Err (Refused book.Checkpoint)) r old new
TakesDrawn (Err next.Piece) number r old new =
    ((fault : CallFault) × (IsPassedOver fault × TakesResult (Err fault) r old new))
    ⊎ ((noted : Result ⊤ CallFault) × (IsNoted noted × TakesLoss noted number old new))

-- a seat counted this many trials more of a study, in a hall of this many slots, or may not count this many
abbrev pub CountsTrials : ℕ → ℕ → ℕ → View → View → Type 0
CountsTrials slots study n old new =
    MatchOption (count_refusal slots old study n) (new ≡ counted old study n) (λ fault. new ≡ old)

-- of a piece of this many trials they are counted if its result was accepted, and nothing else is
abbrev pub CountsAccepted : {E : Type 0} → Result ⊤ E → ℕ → ℕ → ℕ → View → View → Type 0
CountsAccepted (Ok done) slots study n old new = CountsTrials slots study n old new
CountsAccepted (Err fault) slots study n old new = new ≡ old
