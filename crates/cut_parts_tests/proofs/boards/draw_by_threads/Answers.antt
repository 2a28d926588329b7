use Rattle.std.proofs.Common.{◌≡◌, All, Some, IfSome, subst, sym}
use Rattle.std.proofs.lemmas.List.Elements.{All-pop, All-push}
use Rattle.cut_board.specs.declared.seat.Seat.{Seat}
use Rattle.cut_parts_tests.specs.declared.boards.Worked.{Worked}
use Rattle.cut_board.specs.Names.{board_id, board_of}
use Rattle.cut_parts_tests.proofs.boards.draw_by_threads.Goals as goal

pub loop-done-preserved : goal.loop-done-preserved
loop-done-preserved g c =
    let own = All-pop
    (λ one. IfSome one
    (λ (done : Worked). board_of done.seat ≡ board_id c.in_ok-board.board)) c.loop-done.all_done.items
    c.pop.new.self.items (Some c.in-Some.done) c.in-Some.ensures.items c.loop-done.invariant.left in
    let mine : board_of c.in-Some-done.done.seat ≡ board_id c.in_ok-board.board =
    subst (λ one. IfSome one
    (λ (done : Worked). board_of done.seat ≡ board_id c.in_ok-board.board)) c.in-Some-done.is own.1 in
    record {
      back = subst (All (λ (s : Seat). board_of s ≡ board_id c.in_ok-board.board))
          (sym c.in_ok-push.ensures.items)
          (All-push
          (λ (s : Seat). board_of s ≡ board_id c.in_ok-board.board) c.loop-done.back.items c.in-Some-done.done.seat
          c.loop-done.invariant.back mine);
      left = own.0;
    }
