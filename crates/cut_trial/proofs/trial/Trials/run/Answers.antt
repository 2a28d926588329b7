use Rattle.std.proofs.Common.{ap, ◌∙◌}
use Rattle.cut_outcome.proofs.Words.{source_of}
use Rattle.cut_outcome.proofs.Outcomes.{outcome_from}
use Rattle.cut_outcome.proofs.Roles.{roles_length}
use Rattle.cut_trial.proofs.trial.Trials.run.Goals as goal

pub alert-requires : goal.alert-requires
alert-requires c =
    let alerts = c.args.self.now.alerts in
    rw c.in_ok-draw.ensures.drawn
    (roles_length alerts.study.plan.now alerts.cell.f c.new-draws.result alerts.study.rings.now)

pub invariant_of-setup-clause-nodes : goal.invariant_of-setup-clause-nodes
invariant_of-setup-clause-nodes c =
    let alerts = c.args.self.now.alerts in
    rw (c.in_ok-alert.ensures.study, c.in_ok-draw.ensures.drawn)
    (roles_length alerts.study.plan.now alerts.cell.f c.new-draws.result alerts.study.rings.now)

pub returns-clause-outcome : goal.returns-clause-outcome
returns-clause-outcome c =
    let alerts = c.args.self.now.alerts in
    let roles = c.draw.new.self in
    let targets = c.as_slice.ensures.value ∙ c.in_ok-list_targets.ensures in
    let receivers = c.as_slice-2.ensures.value ∙ c.in_ok-list_receivers.ensures in
    c.totals.ensures roles _ c.in_ok-judge.ensures.judged targets
    ∙ rw (receivers, c.in_ok-alert.ensures.study, c.in_ok-alert.ensures.cell)
    (outcome_from alerts.study.plan.now c.args.trial alerts.cell alerts.study.rings.now
    c.new-draws.result c.draw.new.draws roles c.alert.new.self.edges.items c.requires alerts.study.belong
    (c.new-draws.ensures ∙ ap (λ seed. source_of seed c.args.trial) c.seed.ensures.value)
    c.in_ok-draw.ensures.same c.in_ok-draw.ensures.drawn c.in_ok-alert.ensures.edges)
