use Rattle.std.proofs.Common.{arith}
use Rattle.std.proofs.lemmas.List.{length-set}
use Rattle.cut_lists.proofs.Orders.{order_is_below, length-order}
use Rattle.cut_rings.proofs.Orders.{placed_more, is_inverse}
use Rattle.cut_rings.proofs.ring.places.Goals as goal

pub overflow_cast-place : goal.overflow_cast-place
overflow_cast-place c =
    search (arith, length-order)

pub index_mut-requires : goal.index_mut-requires
index_mut-requires c =
    grind (arith, order_is_below)

pub loop-place-preserved : goal.loop-place-preserved
loop-place-preserved c =
    grind (arith, length-order, length-set, placed_more)

pub returns : goal.returns
returns c =
    grind (
      arith,
      length-order c.args.nodes c.args.order.now c.requires.each_once,
      is_inverse c.args.nodes c.args.order.now c.loop-place.positions.items c.requires.each_once
          c.loop-place.invariant.long,
    )
