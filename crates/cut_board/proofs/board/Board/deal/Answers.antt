use Rattle.std.proofs.Common.{ap, arith}
use Rattle.cut_board.specs.declared.view.View.{View}
use Rattle.cut_board.proofs.Allowed.{split_allowed}
use Rattle.cut_board.proofs.board.Board.deal.Goals as goal

pub split_seat-part-requires : goal.split_seat-part-requires
split_seat-part-requires c =
    let key = c.args.self.now.table.shared.key in
    let left = c.loop.invariant.left in (
      c.loop.invariant.own,
      omega arith,
      split_allowed key.studies key.seats c.loop.token.id c.loop.token.me.0 (ap (λ (v : View). v.log) left)
          (let parts = ap (λ (v : View). v.parts) left in omega arith),
    )
