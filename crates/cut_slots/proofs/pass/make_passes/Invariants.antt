use Rattle.std.proofs.Common.{◌≡◌, ◌+◌, length, vec_len, All}
use Rattle.cut_board.specs.Names.{board_id, board_of, view_of}
use Rattle.cut_board.specs.Views.{idle}
use Rattle.cut_slots.proofs.pass.make_passes.Given as goal

-- a part is left for each seat that is
abbrev pub invariant-loop-seat : goal.invariant-loop-seat
invariant-loop-seat g l = record {
  parts : l.rest.parts ≡ length l.seats.items;
  none : l.rest.amount ≡ 0;
  many : length l.passes.items + length l.seats.items ≡ length l.fn.seats.items;
  seats_own : All (λ s. board_of s ≡ board_id l.board) l.seats.items;
  seats_idle : All (λ s. view_of s ≡ idle 1) l.seats.items;
  own : All (λ p. p.hall ≡ board_id l.board) l.passes.items;
  idle : All (λ p. (p.view ≡ idle 1) × (p.made ≡ 0)) l.passes.items;
}

abbrev pub decreases-loop-seat : goal.decreases-loop-seat
decreases-loop-seat g l = vec_len l.seats
