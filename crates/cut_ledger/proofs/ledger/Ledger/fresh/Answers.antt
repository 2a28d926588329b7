-- Over no slips nothing is held.
use Rattle.std.proofs.Common.{◌∙◌, [], ap}
use Rattle.cut_ledger.specs.inside.HeldTrials.{contents_in}
use Rattle.cut_ledger.proofs.SlipLemmas.{over_contents}
use Rattle.cut_ledger.proofs.ledger.Ledger.fresh.Goals as goal

pub returns : goal.returns
returns c =
    let kept = c.in_ok-held_trials.held_trials in
    ap (λ b. contents_in c.args.plan b kept.trials) (c.from_vec-base.ensures ∙ c.new.ensures.items)
    ∙ over_contents c.args.plan [] kept.trials kept.sums.items c.in_ok-held_trials.ensures
