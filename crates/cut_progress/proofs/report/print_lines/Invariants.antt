use Rattle.cut_progress.proofs.Printing.{AreWhole}
use Rattle.cut_progress.proofs.report.print_lines.Given as goal

abbrev pub invariant-lines : goal.invariant-lines
invariant-lines g l = AreWhole l.counts.all l.counts.held (g.E.Wire.log l.fn.wire) (g.E.Wire.log l.wire)
