use Rattle.std.proofs.Common.{◌++◌, ◌∷◌, [], sym, ap, ◌∙◌}
use Rattle.cut_outcome.proofs.Words.{is_target}
use Rattle.cut_lists.proofs.Ranges.{filter_more_kept, filter_more_skipped}
use Rattle.cut_trial.proofs.setup.list_targets.Goals as goal

pub loop-process-preserved-then-not-is_target : goal.loop-process-preserved-then-not-is_target
loop-process-preserved-then-not-is_target c =
    c.loop-process.invariant
    ∙ sym (filter_more_skipped (λ p. is_target c.args.roles.now p) c.loop-process.process
    (sym c.is_target.ensures ∙ cc))

pub loop-process-preserved : goal.loop-process-preserved
loop-process-preserved c =
    c.in_ok-push.ensures.items ∙ ap (λ xs. xs ++ c.loop-process.process ∷ []) c.loop-process.invariant
    ∙ sym (filter_more_kept (λ p. is_target c.args.roles.now p) c.loop-process.process
    (sym c.is_target.ensures ∙ cc))
