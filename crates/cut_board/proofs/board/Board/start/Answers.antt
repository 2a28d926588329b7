use Rattle.std.proofs.Common.{arith}
use Rattle.cut_board.proofs.Keeps.{begins}
use Rattle.cut_board.proofs.board.Board.start.Goals as goal

pub of_words-requires : goal.of_words-requires
of_words-requires c =
    grind (arith, begins)
