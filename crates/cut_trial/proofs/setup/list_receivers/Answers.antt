use Rattle.std.proofs.Common.{◌≡◌, ◌++◌, ◌∷◌, [], true, false, not, sym, ap, ◌∙◌}
use Rattle.cut_outcome.proofs.Words.{is_target}
use Rattle.cut_lists.proofs.Ranges.{filter_more_kept, filter_more_skipped}
use Rattle.cut_trial.proofs.setup.list_receivers.Goals as goal

pub loop-process-preserved-then-is_target : goal.loop-process-preserved-then-is_target
loop-process-preserved-then-is_target c =
    let target : is_target c.args.roles.now c.loop-process.process ≡ true = sym c.is_target.ensures ∙ cc in
    c.loop-process.invariant
    ∙ sym (filter_more_skipped (λ p. not (is_target c.args.roles.now p)) c.loop-process.process (ap not target))

pub loop-process-preserved : goal.loop-process-preserved
loop-process-preserved c =
    let receiver : is_target c.args.roles.now c.loop-process.process ≡ false = sym c.is_target.ensures ∙ cc in
    c.in_ok-push.ensures.items ∙ ap (λ xs. xs ++ c.loop-process.process ∷ []) c.loop-process.invariant
    ∙ sym (filter_more_kept (λ p. not (is_target c.args.roles.now p)) c.loop-process.process (ap not receiver))
