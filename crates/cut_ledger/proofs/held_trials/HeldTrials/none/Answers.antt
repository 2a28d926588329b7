-- As many numbers as trials, and as many sums as cells.
use Rattle.std.proofs.Common.{◌∙◌}
use Rattle.cut_ledger.proofs.CellLemmas.{none_over}
use Rattle.cut_ledger.proofs.held_trials.HeldTrials.none.Goals as goal

pub returns : goal.returns
returns c =
    none_over c.args.plan.now c.in_ok-trials.trials c.in_ok-sums.sums.items c.cells.ensures.plan
    (c.in_ok-trials.ensures.section_len ∙ c.repeats.ensures.value)
    (rw (c.cells.ensures.value, c.repeats.ensures.value) at c.in_ok-trials.ensures.held)
    (c.in_ok-trials.ensures.room ∙ c.cells.ensures.value)
    (rw c.cells-2.ensures.value at (c.in_ok-sums.ensures.items_if_clones_equal (λ y same. same)))
