use Rattle.std.proofs.Common.{◌≡◌, ◌∙◌, ℕ, true, false, cond, sym, ap, arith}
use Rattle.cut_ledger.specs.Tally.{Tally, has_cell}
use Rattle.cut_status.proofs.Counting.{done_few, done_more}
use Rattle.cut_status.proofs.counts.done_cells.Goals.{then-cell_done, else-cell_done}
use Rattle.cut_status.proofs.counts.done_cells.Goals as goal

pub overflow_add-done : goal.overflow_add-done
overflow_add-done c =
    grind (arith, done_few c.args.tally.now c.loop-cell.cell)

pub loop-cell-preserved : goal.loop-cell-preserved
loop-cell-preserved c =
    let a : Tally = c.args.tally.now in
    let n : ℕ = c.loop-cell.cell in
    let more = done_more a n in
    elim c.if-cell_done.branch [
      | then-cell_done w ↦ (let test : has_cell a n ≡ true = sym c.cell_done.ensures ∙ w.if-cell_done.true in
          omega (arith, more, ap (λ b. cond {A = ℕ} b 1 0) test, w.done-is, c.loop-cell.invariant))
      | else-cell_done w ↦ (let test : has_cell a n ≡ false = sym c.cell_done.ensures ∙ w.if-cell_done.false in
          omega (arith, more, ap (λ b. cond {A = ℕ} b 1 0) test, w.done-is, c.loop-cell.invariant))
    ]
