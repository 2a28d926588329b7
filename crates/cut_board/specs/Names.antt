-- What contracts call a board and its seats.
use Rattle.std.specs.Prelude.{ℕ, List, map}
use Rattle.atomic_table.specs.Seated.{TableId}
use Rattle.cut_board.specs.declared.board.Board.{Board}
use Rattle.cut_board.specs.declared.seat.Seat.{Seat}
use Rattle.cut_board.specs.declared.view.View.{View}

-- which board it is
abbrev pub board_id : Board → TableId
board_id b = b.table.shared.table_id

-- how many studies it has
abbrev pub studies_of : Board → ℕ
studies_of b = b.studies

-- how many seats were made with it
abbrev pub seats_of : Board → ℕ
seats_of b = b.seats

-- whose seat it is
abbrev pub board_of : Seat → TableId
board_of s = s.token.table_id

-- what a seat has done
abbrev pub view_of : Seat → View
view_of s = s.token.me.0

abbrev pub views_of : List Seat → List View
views_of seats = map view_of seats
