-- The cell's running sums are those of what it holds, and small.
use Rattle.std.proofs.Common.{◌<◌, ◌∙◌, length, arith}
use Rattle.std.proofs.lemmas.List.{get_or_read}
use Rattle.std.proofs.lemmas.List.FromFn.{length-range_with_len}
use Rattle.std.proofs.lemmas.List.Sums.{count_by-le-length}
use Rattle.cut_ledger.proofs.Words.{each_number}
use Rattle.cut_ledger.proofs.ledger.Ledger.cell_sum.Goals as goal

pub returns-clause-value : goal.returns-clause-value
returns-clause-value c =
    let l = c.self.inside in
    let low = rw (← c.self.view_is) at c.requires in
    let within : c.args.cell < length l.held_trials.sums.items = omega (arith, c.self.invariant.long) in
    rw (← c.self.view_is)
    (get_or_read l.held_trials.sums.items c.args.cell c.index.result.now within c.index.ensures (each_number (λ n. 0))
    ∙ (c.self.invariant.each c.args.cell within).sums)

pub returns-clause-few : goal.returns-clause-few
returns-clause-few c =
    grind (arith, get_or_read, count_by-le-length, length-range_with_len)
