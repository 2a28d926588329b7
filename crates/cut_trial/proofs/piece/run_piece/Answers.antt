use Rattle.std.proofs.Common.{◌∙◌}
use Rattle.cut_trial.proofs.piece.run_piece.Goals as goal

pub new-requires-2-clause-totals : goal.new-requires-2-clause-totals
new-requires-2-clause-totals c =
    c.in_ok-totals.ensures.value ∙ rw (c.new.ensures.plan, c.in_ok-plan.ensures.value)
