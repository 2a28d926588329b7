use Rattle.std.proofs.Common.{◌∙◌, length, ap, sym, zero-add, arith}
use Rattle.cut_lists.proofs.Intervals.{first_failing}
use Rattle.cut_ledger.proofs.Words.{Contents, cell_done, cells_of}
use Rattle.cut_ledger.proofs.available.cells_done.Goals as goal

pub loop-cell-preserved : goal.loop-cell-preserved
loop-cell-preserved c = λ k low. grind (arith, c.loop-cell.invariant k, c.cell_done.ensures, c.if-not-cell_done.false)

pub returns-then-not-cell_done : goal.returns-then-not-cell_done
returns-then-not-cell_done c =
    let l : Contents = c.args.ledger.now.contents in
    let count = rw c.plan.ensures.value at c.cells-cells.ensures.value in
    sym (first_failing (cell_done l) 0 c.loop-cell.cell (length (cells_of l.plan))
    (omega (arith, count, c.loop-cell-test.true)) (λ k _ low. c.loop-cell.invariant k (omega (arith, low)))
    (λ _. ap (cell_done l) (zero-add c.loop-cell.cell) ∙ sym c.cell_done.ensures ∙ c.if-not-cell_done.true))

pub returns : goal.returns
returns c =
    grind (arith, first_failing)
