use Rattle.std.proofs.Common.{◌≡◌, Option, option_map, length, ap, sym, subst, ◌∙◌}
use Rattle.cut_trial.specs.inside.Judging.{proposed_by}
use Rattle.cut_outcome.proofs.Words.{IfSome, Proposal, all_deliveries, early, rule_of}
use Rattle.cut_trial.proofs.Ascending.{proposed_ascend}
use Rattle.cut_trial.proofs.Judged.{on_ok}
use Rattle.cut_outcome.proofs.Outcomes.{placed_at}
use Rattle.cut_trial.proofs.receiver_judge.ReceiverJudge.replay.Goals as goal

pub add-requires-clause-ascending : goal.add-requires-clause-ascending
add-requires-clause-ascending c =
    let alerts = c.args.setup.alerts.now in
    let v = alerts.study.plan.now in
    proposed_ascend c.args.setup.roles.now alerts.study.rings.now
    (rule_of alerts.cell.k alerts.cell.h alerts.cell.l v.implicit)
    (early c.args.draws.now c.args.receiver alerts.cell.k alerts.edges.items v.copies)
    (length (all_deliveries alerts.edges.items v.copies)) (c.args.setup.nodes ∙ sym alerts.study.nodes) c.members.result
    (c.members.ensures ∙ ap (option_map (λ (p : Proposal). p.members)) c.in_ok-receive.ensures.proposal)

pub returns-clause-judged : goal.returns-clause-judged
returns-clause-judged c =
    let p : Option Proposal = proposed_by c.args.setup.alerts.now c.args.draws.now c.args.receiver in
    let proposal = c.in_ok-receive.ensures.proposal in
    on_ok c.add.result
    (λ more before few judging. more p before (c.members.ensures
    ∙ ap (option_map (λ (p : Proposal). p.members)) proposal)
    (placed_at _ _ p (subst (λ o. IfSome o (λ x. x.at ≡ c.deliveries.result)) proposal c.deliveries.ensures.place)) few
    judging)
    c.add.ensures.judging
