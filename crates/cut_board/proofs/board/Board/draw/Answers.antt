use Rattle.std.proofs.Common.{arith}
use Rattle.cut_board.proofs.Allowed.{draw_allowed}
use Rattle.cut_board.proofs.board.Board.draw.Goals as goal

pub fetch_add-number-requires : goal.fetch_add-number-requires
fetch_add-number-requires c =
    let board = c.args.self.now in
    let seat = c.args.seat.now in
    let key = board.table.shared.key in (
      c.requires,
      omega arith,
      draw_allowed key.studies key.seats board.table.shared.table_id.slots seat.token.id c.draw_place.result
          c.args.study seat.token.me c.draw_place.ensures (omega arith) seat.one_part (omega arith) (omega arith),
    )

pub returns-clause-rises : goal.returns-clause-rises
returns-clause-rises c = (c.fetch_add-number.ensures.2.1 c.args.study c.draw_place.ensures).1
