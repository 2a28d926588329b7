use Rattle.std.proofs.Common.{[]}
use Rattle.cut_wires.specs.Sending.{sending}
use Rattle.cut_wires.proofs.Sendings.{cut_before, sends_after}
use Rattle.cut_messages.specs.declared.kind.Kind.TheVariants.{Submit, Quit}
use Rattle.cut_messages.specs.Frames.{frame}
use Rattle.cut_messages.proofs.client.send_both.Goals as goal

pub returns-in-Ok : goal.returns-in-Ok
returns-in-Ok g c =
    sends_after c.send_message-in-Ok.result (sending g.W.Wire.log c.args.writer.now)
    (sending g.W.Wire.log c.send_message.new.writer) (sending g.W.Wire.log c.send_message-in-Ok.new.writer)
    (frame Submit c.args.plan_text.now) (frame Quit []) c.in-Ok.ensures c.send_message-in-Ok.ensures

pub returns-in-Err : goal.returns-in-Err
returns-in-Err g c =
    cut_before c.in-Err.fault (sending g.W.Wire.log c.args.writer.now) (sending g.W.Wire.log c.send_message.new.writer)
    (frame Submit c.args.plan_text.now) (frame Quit []) c.in-Err.ensures
