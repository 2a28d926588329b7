use Rattle.std.proofs.Common.{arith}
use Rattle.cut_board.proofs.Allowed.{read_allowed}
use Rattle.cut_board.proofs.board.Board.read.Goals as goal

pub load-requires : goal.load-requires
load-requires c =
    let board = c.args.self.now in
    let seat = c.args.seat.now in
    let key = board.table.shared.key in (
      c.requires,
      omega arith,
      read_allowed key.studies key.seats board.table.shared.table_id.slots seat.token.id c.count_place.result
          c.args.study seat.token.me c.count_place.ensures (omega arith) seat.one_part (omega arith) (omega arith),
    )

pub returns-clause-seen : goal.returns-clause-seen
returns-clause-seen c = (c.load.ensures.2.1 c.args.study c.count_place.ensures).2

pub returns-clause-rises : goal.returns-clause-rises
returns-clause-rises c = (c.load.ensures.2.1 c.args.study c.count_place.ensures).1
