use Rattle.std.proofs.Common.{Ok, Err}
use Rattle.cut_messages.specs.declared.replies.AnswerState.TheVariants.{Done}
use Rattle.cut_messages.proofs.Answered.{passes_stop}
use Rattle.cut_messages.proofs.replies.pass_all.Goals as goal

pub returns-in-Ok-Done : goal.returns-in-Ok-Done
returns-in-Ok-Done g c =
    passes_stop c.args.messages.now c.loop-message.message-index c.message-item.result (Ok Done)
    (g.O.Wire.log c.args.output.now) (g.O.Wire.log c.loop-message.output) (g.O.Wire.log c.pass.new.output)
    c.loop-message-test.true c.message-item.is tt c.loop-message.invariant
    (rw c.in-Ok-Done.field-0-is at c.in-Ok-Done.ensures)

pub returns-in-Err : goal.returns-in-Err
returns-in-Err g c =
    passes_stop c.args.messages.now c.loop-message.message-index c.message-item.result (Err c.in-Err.fault)
    (g.O.Wire.log c.args.output.now) (g.O.Wire.log c.loop-message.output) (g.O.Wire.log c.pass.new.output)
    c.loop-message-test.true c.message-item.is tt c.loop-message.invariant c.in-Err.ensures
