-- What is held is what the slips say.
use Rattle.std.proofs.Common.{ap, ◌∙◌}
use Rattle.cut_ledger.specs.inside.HeldTrials.{contents_in}
use Rattle.cut_ledger.proofs.SlipLemmas.{over_contents}
use Rattle.cut_ledger.proofs.ledger.Ledger.from_slips.Goals as goal

pub returns-clause-ok : goal.returns-clause-ok
returns-clause-ok c =
    let kept = c.add_slips.new.held_trials in
    ap (λ b. contents_in c.args.plan b kept.trials) (c.from_vec-base.ensures ∙ c.in_ok-from_slice.ensures.items)
    ∙ over_contents c.args.plan c.args.slips.now kept.trials kept.sums.items c.in_ok-add_slips.ensures.ok
