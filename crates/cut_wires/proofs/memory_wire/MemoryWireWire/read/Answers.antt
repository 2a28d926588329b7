use Rattle.std.proofs.Common.{arith}
use Rattle.std.proofs.Common.{length-take-le}
use Rattle.std.proofs.lemmas.List.{take_rest}
use Rattle.std.proofs.Math.Seq.{take-add, take-append_seam}
use Rattle.cut_wires.proofs.memory_wire.MemoryWireWire.read.Goals as goal

pub returns : goal.returns
returns c =
    grind (arith, length-take-le, take_rest, take-append_seam, take-add)
