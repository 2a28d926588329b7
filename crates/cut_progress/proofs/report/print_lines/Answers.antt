use Rattle.std.proofs.Common.{arith}
use Rattle.cut_progress.proofs.Printing.{all_printed, last_cut_off, none_printed, one_more}
use Rattle.cut_progress.proofs.report.print_lines.Goals as goal

pub returns-in_default : goal.returns-in_default
returns-in_default g c = none_printed (g.E.Wire.log c.args.wire.now)

pub returns-in_default-now : goal.returns-in_default-now
returns-in_default-now g c = none_printed (g.E.Wire.log c.args.wire.now)

pub returns-in_default-print_line : goal.returns-in_default-print_line
returns-in_default-print_line g c =
    let cut = c.in_default-print_line.ensures in
    last_cut_off c.lines.counts c.then-counts.result _ c.line.result (g.E.Wire.log c.args.wire.now)
    (g.E.Wire.log c.lines.wire) (g.E.Wire.log c.print_line.new.wire) c.lines.invariant c.then-counts.ensures.all
    (omega (arith, c.then-counts.ensures.held)) c.line.ensures (c.in_default-print_line.field-0.sent, cut.1, cut.0)

pub returns-then-has_ended : goal.returns-then-has_ended
returns-then-has_ended g c =
    all_printed c.then-counts.result.all c.then-counts.result.held (g.E.Wire.log c.args.wire.now)
    (g.E.Wire.log c.print_line.new.wire)
    (one_more c.lines.counts c.then-counts.result _ c.line.result (g.E.Wire.log c.args.wire.now)
    (g.E.Wire.log c.lines.wire) (g.E.Wire.log c.print_line.new.wire) c.lines.invariant c.then-counts.ensures.all
    (omega (arith, c.then-counts.ensures.held)) c.line.ensures c.in-Ok-print_line.ensures)

pub lines-preserved : goal.lines-preserved
lines-preserved g c =
    one_more c.lines.counts c.then-counts.result _ c.line.result (g.E.Wire.log c.args.wire.now)
    (g.E.Wire.log c.lines.wire) (g.E.Wire.log c.print_line.new.wire) c.lines.invariant c.then-counts.ensures.all
    (omega (arith, c.then-counts.ensures.held)) c.line.ensures c.in-Ok-print_line.ensures
