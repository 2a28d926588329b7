use Rattle.std.proofs.lemmas.Grind.{common_steps}
use Rattle.std.proofs.Common.{◌≡◌, Some, arith}
use Rattle.std.proofs.lemmas.List.Elements.{All-pop}
use Rattle.cut_board.specs.declared.seat.Seat.{Seat}
use Rattle.cut_board.specs.Names.{board_id, board_of}
use Rattle.cut_board.proofs.Allowed.{join_allowed}
use Rattle.cut_board.proofs.board.Board.gather.Goals as goal

pub join_seat-requires : goal.join_seat-requires
join_seat-requires c =
    let key = c.args.self.now.table.shared.key in
    let seat = c.in-Some-pop.seat in
    let own = All-pop
    (λ (s : Seat). board_of s ≡ board_id c.args.self.now) c.loop-seat.seats.items c.pop-in-loop-seat.new.self.items
    (Some seat) c.in-Some-pop.ensures.items c.loop-seat.invariant.each_own in (
      c.loop-seat.invariant.own,
      own.1,
      seat.no_slot,
      omega arith,
      join_allowed key.studies key.seats c.loop-seat.whole.id seat.token.id c.loop-seat.whole.me.0 seat.token.me.0,
    )

pub loop-seat-preserved : goal.loop-seat-preserved
loop-seat-preserved c =
    grind (arith, common_steps)
