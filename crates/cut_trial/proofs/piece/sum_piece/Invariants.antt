use Rattle.std.proofs.Common.{◌≡◌, ◌-◌}
use Rattle.cut_outcome.proofs.Words.{range_with_len, cell_at, sum_of}
use Rattle.cut_trial.proofs.piece.sum_piece.Given as goal

abbrev pub invariant-loop-trial : goal.invariant-loop-trial
invariant-loop-trial l = record {
  totals : l.totals ≡ sum_of l.fn.study.plan.now
      (range_with_len l.fn.piece.first (l.trial - l.fn.piece.first));
  plan : l.trials.alerts.study.plan.now ≡ l.fn.study.plan.now;
  cell : l.trials.alerts.cell ≡ cell_at l.fn.study.plan.now l.fn.piece.first;
}
