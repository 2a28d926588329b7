use Rattle.std.proofs.Common.{sym, arith}
use Rattle.cut_messages.proofs.Looks.{whole_there, small_four}
use Rattle.cut_messages.proofs.prefix.prefix_of.Goals as goal

pub returns : goal.returns
returns c = whole_there c.args.side c.args.bytes.now c.in-Some.kind c.length_in-length.result (sym c.in-Some.ensures)
    (omega (arith, c.if-bytes-lt-HEAD.false)) (small_four c.args.bytes.now (λ i. omega (arith, c.type_inv.bytes i)))
    c.length_in-length.ensures (sym c.in-None.ensures) (omega (arith, c.if-bytes-length.false))
