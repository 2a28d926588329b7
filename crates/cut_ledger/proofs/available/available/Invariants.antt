use Rattle.std.proofs.Common.{◌≡◌, ◌++◌}
use Rattle.cut_ledger.proofs.Words.{cell_sum, flat_map, header, line_with, range_with_len}
use Rattle.cut_plan.specs.Failing.{version_of}
use Rattle.cut_ledger.proofs.available.available.Given as goal

-- the header and the lines so far
abbrev pub invariant-loop-cell : goal.invariant-loop-cell
invariant-loop-cell l = l.text.items ≡ header (version_of l.ledger.contents.plan.failing)
    ++ flat_map (λ i. line_with l.ledger.contents.plan i (cell_sum l.ledger.contents i)) (range_with_len 0 l.cell)
