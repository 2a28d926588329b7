-- Passes that are taken apart, as a hall is closed.
use Rattle.std.specs.Prelude.{◌≡◌, ℕ, List, length}
use Rattle.cut_board.specs.declared.seat.Seat.{Seat}
use Rattle.cut_board.specs.Names.{views_of}
use Rattle.cut_board.specs.Views.{counted_by}
use Rattle.cut_slots.specs.Pass.{Holding}
use Rattle.cut_slots.specs.Report.{made_in_all, counted_in_all}

-- the seats of passes, in any order, and the calls and the parts of them all
pub record IsTakenApart (passes : List Holding) (seats : List Seat) (parts amount : ℕ) : Type 0 where
  pub many : length seats ≡ length passes
  pub counted : (study : ℕ) → counted_by study (views_of seats) ≡ counted_in_all study passes
  pub parts_are : parts ≡ length passes
  pub amount_is : amount ≡ made_in_all passes
