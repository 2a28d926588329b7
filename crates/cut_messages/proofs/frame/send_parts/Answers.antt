use Rattle.cut_wires.specs.Sending.{sending}
use Rattle.cut_wires.proofs.Sendings.{cut_before, sends_after}
use Rattle.cut_messages.proofs.frame.send_parts.Goals as goal

pub returns-in-Ok : goal.returns-in-Ok
returns-in-Ok g c =
    let log = g.W.Wire.log in
    sends_after c.send-in-Ok.result (sending log c.args.writer.now) (sending log c.send.new.self)
    (sending log c.send-in-Ok.new.self) _ c.args.payload.now
    (rw (c.as_slice.ensures, c.head_of-head.ensures) at c.in-Ok.ensures)
    c.send-in-Ok.ensures

pub returns-in-Err : goal.returns-in-Err
returns-in-Err g c =
    let log = g.W.Wire.log in
    cut_before c.in-Err.fault (sending log c.args.writer.now) (sending log c.send.new.self) _ c.args.payload.now
    (rw (c.as_slice.ensures, c.head_of-head.ensures) at c.in-Err.ensures)
