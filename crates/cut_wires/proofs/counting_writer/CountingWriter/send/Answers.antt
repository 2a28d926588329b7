use Rattle.std.proofs.Common.{refl, arith}
use Rattle.std.proofs.lemmas.List.{take_rest}
use Rattle.cut_wires.specs.Sending.{sending}
use Rattle.cut_wires.proofs.Sendings.{sent_next}
use Rattle.cut_wires.proofs.counting_writer.CountingWriter.send.Goals as goal

pub loop-taken-preserved : goal.loop-taken-preserved
loop-taken-preserved g c = record {
  within = grind (arith, take_rest);
  sent = sent_next (sending g.W.Wire.log c.args.self.now) (sending g.W.Wire.log c.loop-taken.self) _ c.loop-taken.taken c.in-Ok.n
      c.args.bytes.now c.loop-taken.invariant.sent c.loop-taken.invariant.within c.in-Ok.ensures.bound refl
      c.in-Ok.ensures.writes c.saturating_add-self.ensures;
}
