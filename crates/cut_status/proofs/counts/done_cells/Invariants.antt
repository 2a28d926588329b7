use Rattle.std.proofs.Common.{◌≡◌}
use Rattle.cut_status.specs.inside.Counts.{done_among}
use Rattle.cut_status.proofs.counts.done_cells.Given as goal

-- those of the cells so far
abbrev pub invariant-loop-cell : goal.invariant-loop-cell
invariant-loop-cell l = l.done ≡ done_among l.tally l.cell
