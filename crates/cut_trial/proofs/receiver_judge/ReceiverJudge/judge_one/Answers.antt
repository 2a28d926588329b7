use Rattle.std.proofs.Common.{◌≡◌, ℕ, List, Option, Some, None, option_map, get_or, length, ap, sym, subst, ◌∙◌}
use Rattle.cut_arrivals.specs.proposals.Reception.{proposal_at}
use Rattle.cut_arrivals.specs.candidates.Candidates.{subjects_of}
use Rattle.cut_arrivals.specs.receivers.LaneVerdicts.{flagged, members_at}
use Rattle.cut_arrivals.specs.receivers.Received.{reception_of}
use Rattle.cut_plan.specs.Failing.{version_of}
use Rattle.cut_trial.specs.inside.Judging.{proposed_by, proposals_to}
use Rattle.cut_trial.proofs.Placed.{placed_for}
use Rattle.cut_outcome.proofs.Words.{IfSome, Proposal, IsPlaced, all_deliveries, early, rule_of}
use Rattle.cut_trial.proofs.Judged.{few_judged, found_other, not_doubtful, wanted_is_certain, other_is_certain}
use Rattle.cut_trial.proofs.Judged.{found_silent, found_wanted, on_ok, one_more_judged, receiver_within}
use Rattle.cut_trial.proofs.Ascending.{proposed_ascend}
use Rattle.cut_outcome.proofs.Outcomes.{none_proposed, some_proposed}
use Rattle.cut_trial.proofs.receiver_judge.ReceiverJudge.judge_one.Goals as goal

pub replay-requires-clause-receiver : goal.replay-requires-clause-receiver
replay-requires-clause-receiver c =
    receiver_within c.args.context.setup.roles.now c.args.context.setup.receivers.now c.args.index 0
    c.args.context.setup.receivers_are c.requires.next.some

pub returns-in-Silent-default-clause-judged : goal.returns-in-Silent-default-clause-judged
returns-in-Silent-default-clause-judged c =
    let context = c.args.context in
    let setup = context.setup in
    let d = c.args.draws.now in
    let j : ℕ = get_or setup.receivers.now c.args.index 0 in
    let p : Option Proposal = proposed_by setup.alerts.now d j in
    let same : proposal_at (reception_of context.trial j) ≡ p =
    context.heard j ∙ ap (λ x. proposed_by setup.alerts.now x j) (sym c.requires.ready.draws) in
    let silent = ap (option_map (λ (x : Proposal). x.members)) (sym same)
    ∙ found_silent (flagged (subjects_of context.trial.candidates.now.candidates.items) context.wanted.now)
    (members_at (reception_of context.trial j)) c.args.placed_verdict.lane_verdict c.in-Silent-default.is-0
    c.requires.placed_verdict.placed_verdict.finds
    in
    let none : p ≡ None = none_proposed p (sym silent) in
    on_ok c.add.result
    (λ more. rw (one_more_judged setup.alerts.now d setup.receivers.now c.args.index c.requires.next.some)
    (more p (proposals_to setup.alerts.now d setup.receivers.now c.args.index) (sym silent)
    (subst (λ o. IfSome o (λ x. IsPlaced c.args.self.now.outcome.version 0 (Some x))) (sym none) tt)
    (few_judged setup.roles.now setup.alerts.now d setup.receivers.now c.args.index setup.receivers_are setup.nodes)
    c.requires.next.before)) c.add.ensures.judging

pub returns-in-Wanted-Some-clause-judged : goal.returns-in-Wanted-Some-clause-judged
returns-in-Wanted-Some-clause-judged c =
    let context = c.args.context in
    let setup = context.setup in
    let d = c.args.draws.now in
    let j : ℕ = get_or setup.receivers.now c.args.index 0 in
    let p : Option Proposal = proposed_by setup.alerts.now d j in
    let wanted : List ℕ = flagged (subjects_of context.trial.candidates.now.candidates.items) context.wanted.now in
    let same : proposal_at (reception_of context.trial j) ≡ p =
    context.heard j ∙ ap (λ x. proposed_by setup.alerts.now x j) (sym c.requires.ready.draws) in
    let proposed = ap (option_map (λ (x : Proposal). x.members)) (sym same)
    ∙ found_wanted wanted (members_at (reception_of context.trial j)) c.args.placed_verdict.lane_verdict
    c.in-Wanted-Some.is-0
    c.requires.placed_verdict.placed_verdict.finds in
    let found = some_proposed p wanted (sym proposed) in
    let certain = not_doubtful _ c.args.placed_verdict.lane_verdict
    (wanted_is_certain c.args.placed_verdict.lane_verdict c.in-Wanted-Some.is-0)
    c.requires.placed_verdict.placed_verdict.certain in
    rw (one_more_judged setup.alerts.now d setup.receivers.now c.args.index c.requires.next.some, found.1)
    (c.add_exact.ensures.judging setup.roles.now found.0 (proposals_to setup.alerts.now d setup.receivers.now
    c.args.index)
    (found.2 ∙ context.complete c.if-context.true)
    (subst (λ o. IfSome o (λ q. IsPlaced c.args.self.now.outcome.version c.in-Wanted-Some.place (Some q))) found.1
    (placed_for (reception_of context.trial j) (version_of setup.alerts.now.study.plan.now.failing)
    c.args.self.now.outcome.version c.args.placed_verdict.place c.in-Wanted-Some.place _ p c.in-Wanted-Some.is-1 certain
    same
    c.requires.ready.fit.version c.requires.placed_verdict.placed_verdict.placed))
    (few_judged setup.roles.now setup.alerts.now d setup.receivers.now c.args.index setup.receivers_are setup.nodes)
    c.requires.next.before)

pub returns-in_default-clause-judged : goal.returns-in_default-clause-judged
returns-in_default-clause-judged c =
    let setup = c.args.context.setup in
    let d = c.args.draws.now in
    on_ok c.replay.result
    (λ more. rw (one_more_judged setup.alerts.now d setup.receivers.now c.args.index c.requires.next.some)
    (more (proposals_to setup.alerts.now d setup.receivers.now c.args.index)
    (few_judged setup.roles.now setup.alerts.now d setup.receivers.now c.args.index setup.receivers_are setup.nodes)
    c.requires.next.before)) c.replay.ensures.judged

pub add-requires-in-Other-Some-clause-ascending : goal.add-requires-in-Other-Some-clause-ascending
add-requires-in-Other-Some-clause-ascending c =
    let context = c.args.context in
    let setup = context.setup in
    let alerts = setup.alerts.now in
    let d = c.args.draws.now in
    let v = alerts.study.plan.now in
    let j : ℕ = get_or setup.receivers.now c.args.index 0 in
    let same : proposal_at (reception_of context.trial j) ≡ proposed_by alerts d j =
    context.heard j ∙ ap (λ x. proposed_by alerts x j) (sym c.requires.ready.draws) in
    let certain = not_doubtful _ c.args.placed_verdict.lane_verdict
    (other_is_certain c.args.placed_verdict.lane_verdict c.in-Other-Some.is-0)
    c.requires.placed_verdict.placed_verdict.certain in
    let listed = found_other (flagged (subjects_of context.trial.candidates.now.candidates.items) context.wanted.now)
    (members_at (reception_of context.trial j)) c.args.placed_verdict.lane_verdict _ c.in-Other-Some.is-0
    c.requires.placed_verdict.placed_verdict.finds
    (c.in_ok-members-in-Other-Some.ensures.members (reception_of context.trial j) c.requires.placed_verdict.heard
    certain) in
    proposed_ascend setup.roles.now alerts.study.rings.now
    (rule_of alerts.cell.k alerts.cell.h alerts.cell.l v.implicit)
    (early d j alerts.cell.k alerts.edges.items v.copies)
    (length (all_deliveries alerts.edges.items v.copies)) (setup.nodes ∙ sym alerts.study.nodes)
    (Some c.as_slice.result)
    (ap (λ (ms : List ℕ). Some ms) c.as_slice.ensures.value ∙ listed
    ∙ ap (option_map (λ (x : Proposal). x.members)) same)

pub returns-in_ok-members-in-Other-Some-clause-judged : goal.returns-in_ok-members-in-Other-Some-clause-judged
returns-in_ok-members-in-Other-Some-clause-judged c =
    let context = c.args.context in
    let setup = context.setup in
    let d = c.args.draws.now in
    let j : ℕ = get_or setup.receivers.now c.args.index 0 in
    let p : Option Proposal = proposed_by setup.alerts.now d j in
    let same : proposal_at (reception_of context.trial j) ≡ p =
    context.heard j ∙ ap (λ x. proposed_by setup.alerts.now x j) (sym c.requires.ready.draws) in
    let certain = not_doubtful _ c.args.placed_verdict.lane_verdict
    (other_is_certain c.args.placed_verdict.lane_verdict c.in-Other-Some.is-0)
    c.requires.placed_verdict.placed_verdict.certain in
    let listed = found_other (flagged (subjects_of context.trial.candidates.now.candidates.items) context.wanted.now)
    (members_at (reception_of context.trial j)) c.args.placed_verdict.lane_verdict _ c.in-Other-Some.is-0
    c.requires.placed_verdict.placed_verdict.finds
    (c.in_ok-members-in-Other-Some.ensures.members (reception_of context.trial j) c.requires.placed_verdict.heard
    certain) in
    let proposed = ap (λ (ms : List ℕ). Some ms) c.as_slice.ensures.value ∙ listed
    ∙ ap (option_map (λ (x : Proposal). x.members)) same in
    let found = some_proposed p c.as_slice.result.now proposed in
    on_ok c.add-in-Other-Some.result
    (λ more. rw (one_more_judged setup.alerts.now d setup.receivers.now c.args.index c.requires.next.some)
    (more p (proposals_to setup.alerts.now d setup.receivers.now c.args.index) proposed
    (placed_for (reception_of context.trial j) (version_of setup.alerts.now.study.plan.now.failing)
    c.args.self.now.outcome.version c.args.placed_verdict.place c.in-Other-Some.place _ p c.in-Other-Some.is-1 certain
    same
    c.requires.ready.fit.version c.requires.placed_verdict.placed_verdict.placed)
    (few_judged setup.roles.now setup.alerts.now d setup.receivers.now c.args.index setup.receivers_are setup.nodes)
    c.requires.next.before)) c.add-in-Other-Some.ensures.judging
