-- A cell that is done has its full line.
use Rattle.std.proofs.Common.{◌≡◌, ℕ, true, ap}
use Rattle.cut_ledger.specs.lines.Lines.{line_with}
use Rattle.cut_ledger.specs.Contents.{Contents, cell_done, cell_sum}
use Rattle.cut_ledger.proofs.FullSums.{done_sum}
use Rattle.cut_slots.specs.Lines.{full_line}

pub done_line : (l : Contents) (c : ℕ) → cell_done l c ≡ true → line_with l.plan c (cell_sum l c)
    ≡ full_line l.plan l.base c
unfolding full_line
done_line l c done = ap (λ x. line_with l.plan c x) (done_sum l c done)
