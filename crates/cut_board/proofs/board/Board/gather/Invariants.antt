use Rattle.std.proofs.Common.{◌≡◌, ◌++◌, List, vec_len, All}
use Rattle.cut_board.specs.declared.seat.Seat.{Seat}
use Rattle.cut_board.specs.Names.{board_id, board_of, views_of}
use Rattle.cut_board.specs.inside.Views.{gathered}
use Rattle.cut_board.proofs.board.Board.gather.Given as goal

-- the seats that were taken, of which the one has done all
abbrev pub invariant-loop-seat : goal.invariant-loop-seat
invariant-loop-seat l = record {
  own : l.whole.table_id ≡ board_id l.self;
  each_own : All (λ s. board_of s ≡ board_id l.self) l.seats.items;
  done : (taken : List Seat) × (l.fn.seats.items ≡ l.seats.items ++ taken) ×
      (l.whole.me.0 ≡ gathered (views_of taken));
}

abbrev pub decreases-loop-seat : goal.decreases-loop-seat
decreases-loop-seat l = vec_len l.seats
