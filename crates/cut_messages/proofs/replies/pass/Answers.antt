use Rattle.std.proofs.Common.{◌∙◌, sym, ap, w16}
use Rattle.std.specs.Int.{from_be_bytes}
use Rattle.cut_wires.proofs.Logs.{wrote_none}
use Rattle.cut_messages.proofs.Answered.{alone, line_cut}
use Rattle.cut_messages.proofs.replies.pass.Goals as goal

pub returns-in-Err : goal.returns-in-Err
returns-in-Err g c =
    let sends = c.in-Err.ensures in (
      alone c.args.message.now,
      c.in-Row.is,
      line_cut c.args.message.now.payload c.as_slice-payload.result.now c.in-Err.field-0.sent
          (g.O.Wire.log c.args.output.now) (g.O.Wire.log c.send_all.new.wire) c.as_slice-payload.ensures
          sends.1 sends.0,
    )

pub returns-in-Done : goal.returns-in-Done
returns-in-Done g c = (alone c.args.message.now, c.in-Done.is, sym (wrote_none (g.O.Wire.log c.args.output.now)))

pub returns-in-Fault : goal.returns-in-Fault
returns-in-Fault g c = (
  alone c.args.message.now,
  c.in-Fault.is,
  c.read_fault_number.ensures ∙ ap (from_be_bytes w16) c.as_slice-payload.ensures,
  sym (wrote_none (g.O.Wire.log c.args.output.now)),
)
