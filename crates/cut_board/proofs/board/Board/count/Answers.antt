use Rattle.std.proofs.Common.{arith}
use Rattle.cut_board.proofs.Allowed.{count_allowed}
use Rattle.cut_board.proofs.board.Board.count.Goals as goal

pub fetch_add-seat-requires : goal.fetch_add-seat-requires
fetch_add-seat-requires c =
    let board = c.args.self.now in
    let seat = c.args.seat.now in
    let key = board.table.shared.key in (
      c.requires,
      omega arith,
      count_allowed key.studies key.seats board.table.shared.table_id.slots seat.token.id c.count_place.result
          c.args.study c.args.n seat.token.me c.count_place.ensures (omega arith) seat.one_part (omega arith)
          (omega arith),
    )
