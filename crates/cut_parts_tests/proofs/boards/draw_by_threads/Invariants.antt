use Rattle.std.proofs.Common.{◌≡◌, All, IfSome, vec_len}
use Rattle.cut_board.specs.Names.{board_id, board_of}
use Rattle.cut_parts_tests.proofs.boards.draw_by_threads.Given as goal

abbrev pub invariant-loop-done : goal.invariant-loop-done
invariant-loop-done g l = record {
  back : All (λ s. board_of s ≡ board_id l.board) l.back.items;
  left : All (λ one. IfSome one (λ done. board_of done.seat ≡ board_id l.board)) l.all_done.items;
}

abbrev pub decreases-loop-done : goal.decreases-loop-done
decreases-loop-done g l = vec_len l.all_done
