use Rattle.std.proofs.Common.{sym, ap, ◌∙◌}
use Rattle.cut_outcome.proofs.Words.{Values, cell_at}
use Rattle.cut_outcome.proofs.Outcomes.{cell_read}
use Rattle.cut_trial.proofs.trial.run_trial.Goals as goal

pub run-requires : goal.run-requires
run-requires c =
    c.in_ok-trials.ensures.cell
    ∙ cell_read c.args.plan.now c.args.trial c.cell_of.result c.cell-cell.result
    c.cell-cell.ensures.value c.cell_of.ensures.value
    ∙ ap (λ (v : Values). cell_at v c.args.trial) (sym (c.in_ok-trials.ensures.study ∙ c.new.ensures.plan))
