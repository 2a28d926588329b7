use Rattle.std.proofs.Common.{◌≡◌, ◌≤◌, []}
use Rattle.cut_wires.specs.Sending.{sending}
use Rattle.cut_session.specs.inside.Serving.{IsServing}
use Rattle.cut_session.proofs.answer.Session.serve.Given as goal

-- all messages so far are answered
abbrev pub invariant-loop : goal.invariant-loop
invariant-loop g l = record {
  next : (goal.iterator-loop g).can_next l.iterator';
  finite : (goal.iterator-loop g).is_finite l.iterator';
  serving : IsServing l.fn.self.hall.now l.fn.self.pass.now.view l.self.pass.now.view l.reader l.requests []
      (sending g.W.Wire.log l.fn.writer) (sending g.W.Wire.log l.writer);
  few : l.requests ≤ 1000000;
  hall : l.self.hall.now ≡ l.fn.self.hall.now;
  pass : l.self.pass.ghost_name ≡ l.fn.self.pass.ghost_name;
}
