use Rattle.std.proofs.Common.{◌∙◌, refl, ap, arith}
use Rattle.cut_wires.specs.Sending.{sending}
use Rattle.cut_messages.specs.Reading.{Reading}
use Rattle.cut_session.proofs.Turns.{rises_none}
use Rattle.cut_session.proofs.SessionTraces.{serves_first}
use Rattle.cut_session.proofs.answer.Session.serve.Goals as goal

pub returns-in-Err-clause-ends : goal.returns-in-Err-clause-ends
returns-in-Err-clause-ends g c =
    (rw c.loop.invariant.hall at (c.in-Err.ensures.goes c.args.self.now.pass.now.view
    (sending g.W.Wire.log c.args.writer.now) c.requires)) c.loop.invariant.serving

pub loop-preserved : goal.loop-preserved
loop-preserved g c = record {
  next = tt;
  finite = tt;
  serving = ((rw c.loop.invariant.hall at (c.in-Ok.ensures.goes c.args.self.now.pass.now.view
      (sending g.W.Wire.log c.args.writer.now) c.requires)) c.loop.invariant.serving).0;
  few = c.in-Ok.ensures.few;
  hall = c.take_next.ensures.stays.0 ∙ c.loop.invariant.hall;
  pass = c.take_next.ensures.stays.1 ∙ c.loop.invariant.pass;
}

pub loop-init : goal.loop-init
loop-init g c = record {
  next = tt;
  finite = tt;
  serving = serves_first c.args.self.now.hall.now c.args.self.now.pass.now.view c.requests-reader.result
      (sending g.W.Wire.log c.args.writer.now) c.requests-reader.ensures.nothing
      (ap (λ (r : Reading). r.fault) c.requests-reader.ensures.value)
      (ap (λ (r : Reading). r.side) c.requests-reader.ensures.value) (rises_none c.args.self.now.pass.now.view)
      c.requires;
  few = omega arith;
  hall = refl;
  pass = refl;
}
