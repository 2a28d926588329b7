-- The sums of the piece's cell leave room for its own.
use Rattle.std.proofs.Common.{◌<◌, ℕ, List, length, arith}
use Rattle.std.proofs.lemmas.List.{get_or_read}
use Rattle.cut_ledger.proofs.Words.{Totals, each_number}
use Rattle.cut_ledger.proofs.CellLemmas.{sums_fit}
use Rattle.cut_ledger.proofs.held_trials.HeldTrials.add.Goals as goal

pub plus-requires-clause-self_fits : goal.plus-requires-clause-self_fits
plus-requires-clause-self_fits c =
    let kept = c.requires.kept.1 in
    let sums : List Totals = c.args.self.now.sums.items in
    let cell : ℕ = c.cell_of-cell.result in
    let within : cell < length sums = omega (arith, kept.long, c.cell_of-cell.ensures.in_range) in
    rw (get_or_read sums cell c.index.result.now within c.index.ensures (each_number (λ n. 0)))
    (sums_fit c.args.plan.now c.requires.kept.0 c.args.self.now.trials sums cell kept within)
