use Rattle.std.proofs.Common.{arith}
use Rattle.std.proofs.KnownBytes.{Consumes-trans}
use Rattle.cut_wires.proofs.StreamLemmas.{consumed}
use Rattle.cut_wires.proofs.stream_wire.StreamWireWire.read.Goals as goal

pub invariant_of-self : goal.invariant_of-self
invariant_of-self g c =
    grind (arith, consumed, Consumes-trans)
