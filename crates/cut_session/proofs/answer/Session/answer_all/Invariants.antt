use Rattle.std.proofs.Common.{◌≡◌, ◌*◌, Ok, length, take}
use Rattle.cut_wires.specs.Sending.{sending}
use Rattle.cut_session.specs.Answering.{AnswersAll}
use Rattle.cut_session.specs.inside.Serving.{Replies, longest_reply}
use Rattle.cut_session.proofs.answer.Session.answer_all.Given as goal

-- the requests so far are answered
abbrev pub invariant-loop-message : goal.invariant-loop-message
invariant-loop-message g l = record {
  replies : Replies (AnswersAll l.fn.self.hall.now l.fn.self.pass.now.view l.self.pass.now.view
      (take l.message-index l.messages)) (longest_reply * length (take l.message-index l.messages)) (Ok tt)
      (sending g.W.Wire.log l.fn.writer) (sending g.W.Wire.log l.writer);
  hall : l.self.hall.now ≡ l.fn.self.hall.now;
  pass : l.self.pass.ghost_name ≡ l.fn.self.pass.ghost_name;
}
