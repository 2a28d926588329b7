use Rattle.std.proofs.Common.{◌≡◌, ◌<◌, ℕ, true}
use Rattle.cut_ledger.specs.Contents.{cell_done}
use Rattle.cut_ledger.proofs.available.cells_done.Given as goal

-- the cells so far are done
abbrev pub invariant-loop-cell : goal.invariant-loop-cell
invariant-loop-cell l = (k : ℕ) → k < l.cell → cell_done l.ledger.contents k ≡ true
