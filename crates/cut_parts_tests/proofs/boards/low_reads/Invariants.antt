use Rattle.std.proofs.Common.{◌≡◌}
use Rattle.cut_board.specs.Names.{board_of}
use Rattle.cut_parts_tests.proofs.boards.low_reads.Given as goal

abbrev pub invariant-loop-number : goal.invariant-loop-number
invariant-loop-number l = board_of l.seat ≡ board_of l.fn.seat
