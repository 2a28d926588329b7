-- What was drawn and counted over all seats.
use Rattle.std.specs.Prelude.{◌≡◌, ℕ, ◌<◌, ◌≤◌, List, map, length, All}
use Rattle.std.specs.List.{range_with_len}
use Rattle.cut_board.specs.declared.board.Board.{Board}
use Rattle.cut_board.specs.declared.fault.Unfinished.{Unfinished}
use Rattle.cut_board.specs.declared.fault.Unfinished.TheVariants.{Memory, SeatMissing}
use Rattle.cut_board.specs.declared.seat.Seat.{Seat}
use Rattle.cut_board.specs.declared.totals.StudyTotals.{StudyTotals}
use Rattle.cut_board.specs.declared.view.View.{View}
use Rattle.cut_board.specs.Names.{seats_of}
use Rattle.cut_board.specs.Rule.{IsEachBelow}
use Rattle.cut_board.specs.Views.{drawn_by, counted_by, seen_in}

-- of a study: how many numbers the seats drew, and the sum of what they counted
abbrev pub total_of : List View → ℕ → StudyTotals
total_of views study = record { draws = length (drawn_by study views); count = counted_by study views }

-- of each study in order
abbrev pub totals_of : ℕ → List View → List StudyTotals
totals_of studies views = map (total_of views) (range_with_len 0 studies)

-- the numbers that the seats drew of a study are those below their number, each once
abbrev pub IsDrawnOnce : List View → ℕ → Type 0
IsDrawnOnce views study = IsEachBelow (length (drawn_by study views)) (drawn_by study views)

-- no seat has seen a greater count of a study than the sum of what they counted
abbrev pub HasSeenNoMore : List View → ℕ → Type 0
HasSeenNoMore views study = All (λ v. seen_in study v ≤ counted_by study views) views

-- why a board was not finished: seats are missing, and all comes back as it was, or memory ran out
abbrev pub IsWhyOf : Board → List Seat → Unfinished → Type 0
IsWhyOf board seats Memory = seats_of board ≤ length seats
IsWhyOf board seats (SeatMissing b s) = (b ≡ board) × (s.items ≡ seats) × (length seats < seats_of board)
