use Rattle.std.proofs.lemmas.Grind.{common_steps}
use Rattle.std.proofs.Common.{◌∙◌, arith}
use Rattle.cut_wires.specs.Sending.{sending}
use Rattle.cut_session.proofs.Turns.{goes_on, is_over, is_cut}
use Rattle.cut_session.proofs.answer.Session.answer_all.Goals as goal

pub loop-message-init : goal.loop-message-init
loop-message-init g c = grind (arith, common_steps)

pub loop-message-preserved : goal.loop-message-preserved
loop-message-preserved g c =
    let log = g.W.Wire.log in
    record {
      replies = goes_on c.args.self.now.hall.now c.args.self.now.pass.now.view c.loop-message.self.pass.now.view
          c.answer.new.self.pass.now.view c.args.messages.now c.loop-message.message-index c.message-item.result
          (sending log c.args.writer.now) (sending log c.loop-message.writer) (sending log c.answer.new.writer)
          c.loop-message-test.true c.message-item.is c.loop-message.invariant.replies
          (rw (c.in-Ok-On.field-0-is, c.loop-message.invariant.hall) at c.in-Ok-On.ensures.serves);
      hall = c.answer.ensures.stays.0 ∙ c.loop-message.invariant.hall;
      pass = c.answer.ensures.stays.1 ∙ c.loop-message.invariant.pass;
    }

pub returns-in-Ok-Over-clause-serves : goal.returns-in-Ok-Over-clause-serves
returns-in-Ok-Over-clause-serves g c =
    let log = g.W.Wire.log in
    is_over c.args.self.now.hall.now c.args.self.now.pass.now.view c.loop-message.self.pass.now.view
    c.answer.new.self.pass.now.view c.args.messages.now c.loop-message.message-index c.message-item.result
    (sending log c.args.writer.now) (sending log c.loop-message.writer) (sending log c.answer.new.writer)
    c.loop-message-test.true c.message-item.is c.loop-message.invariant.replies
    (rw c.in-Ok-Over.field-0-is at c.in-Ok-Over.ensures.serves)

pub returns-in-Err-clause-serves : goal.returns-in-Err-clause-serves
returns-in-Err-clause-serves g c =
    let log = g.W.Wire.log in
    is_cut c.args.self.now.hall.now c.args.self.now.pass.now.view c.loop-message.self.pass.now.view
    c.answer.new.self.pass.now.view c.args.messages.now c.loop-message.message-index c.message-item.result
    (sending log c.args.writer.now) (sending log c.loop-message.writer) (sending log c.answer.new.writer)
    c.loop-message-test.true c.message-item.is c.loop-message.invariant.replies c.in-Err.fault
    (rw c.loop-message.invariant.hall at c.in-Err.ensures.serves)
