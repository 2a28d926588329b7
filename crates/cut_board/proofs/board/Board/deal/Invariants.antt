use Rattle.std.proofs.Common.{◌≡◌, ◌+◌, ◌-◌, ◌≤◌, [], vec_len, vec_capacity, All}
use Rattle.cut_board.specs.Names.{board_id, board_of, seats_of, view_of}
use Rattle.cut_board.specs.Views.{idle}
use Rattle.cut_board.proofs.board.Board.deal.Given as goal

abbrev pub invariant-loop : goal.invariant-loop
invariant-loop l = record {
  own : l.token.table_id ≡ board_id l.self;
  left : l.token.me.0 ≡ idle (seats_of l.self - vec_len l.seats);
  no_slot : l.token.me.1 ≡ [];
  many : vec_len l.seats + 1 ≡ l.counter;
  room : seats_of l.self ≤ vec_capacity l.seats;
  each_own : All (λ s. board_of s ≡ board_id l.self) l.seats.items;
  each_idle : All (λ s. view_of s ≡ idle 1) l.seats.items;
}
