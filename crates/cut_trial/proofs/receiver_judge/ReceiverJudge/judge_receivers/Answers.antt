use Rattle.std.proofs.Common.{◌≡◌, ℕ, Bool, false, List, filter, length, refl, ap, sym, ◌∙◌}
use Rattle.std.proofs.Common.{arith}
use Rattle.std.proofs.lemmas.Bool.{eqb-true}
use Rattle.cut_detector.specs.Rule.{rule_in}
use Rattle.cut_detector.specs.Counts.{is_reported, is_some_stable}
use Rattle.cut_arrivals.specs.candidates.Candidates.{subjects_of}
use Rattle.cut_outcome.proofs.Words.{Rule, is_target, range_with_len, rule_of, set_of, targets_of}
use Rattle.cut_trial.proofs.Judged.{complete_from, none_stable, some_candidate, subjects_within}
use Rattle.cut_trial.proofs.receiver_judge.ReceiverJudge.judge_receivers.Goals as goal

pub wanted_candidates-requires : goal.wanted_candidates-requires
wanted_candidates-requires c =
    grind (arith, subjects_within)

pub invariant_of-trial-clause-layout : goal.invariant_of-trial-clause-layout
invariant_of-trial-clause-layout c = c.rings_are_a_layout.ensures

pub invariant_of-context-clause-heard : goal.invariant_of-context-clause-heard
invariant_of-context-clause-heard c = grind arith

pub judge_silent-requires-clause-silent : goal.judge_silent-requires-clause-silent
judge_silent-requires-clause-silent c = λ j.
    let alerts = c.args.setup.alerts.now in
    let rule : Rule = rule_of alerts.cell.k alerts.cell.h alerts.cell.l alerts.study.plan.now.implicit in
    let none : is_some_stable alerts.study.rings.now rule (set_of alerts.edges.items) ≡ false =
    grind arith in
    c.none_proposes_where_none_ends_stable.ensures
    (record {
      source = c.args.draws.now;
      receiver = j;
      layout = alerts.study.rings.now;
      rule = rule;
      edges = alerts.edges.items;
      copies = alerts.study.plan.now.copies;
    })
    (record {
      layout = c.rings_are_a_layout.ensures;
      rings = omega (arith, c.rule-rule.ensures.rings, ap (λ (x : Rule). x.k) c.rule-rule.ensures.rule);
      rule = record { low = alerts.cell_of_plan.low; gap = alerts.cell_of_plan.thresholds };
    })
    (none_stable alerts.study.rings.now rule (set_of alerts.edges.items) none)

pub invariant_of-context-clause-some : goal.invariant_of-context-clause-some
invariant_of-context-clause-some c =
    grind (arith, some_candidate)

pub invariant_of-context-clause-complete : goal.invariant_of-context-clause-complete
invariant_of-context-clause-complete c = λ is.
    let setup = c.args.setup in
    let roles = setup.roles.now in
    let reported : ℕ → Bool = λ s. is_reported (rule_in c.rule-rule.result) (set_of c.as_slice-edges.result.now) s in
    let flags : List Bool = c.as_slice-wanted.result.now in
    let nodes : setup.alerts.now.study.rings.now.nodes ≡ length roles.roles =
    setup.alerts.now.study.nodes ∙ sym setup.nodes in
    let many = eqb-true c.count_set.result (length setup.targets.now) is in
    complete_from (λ s. is_target roles s) reported (length roles.roles)
    (subjects_of c.in_ok-candidates.candidates.candidates.items) (targets_of roles) flags
    (c.in_ok-candidates.ensures.subjects ∙ ap (λ n. filter reported (range_with_len 0 n)) nodes) refl
    (c.as_slice-wanted.ensures.value ∙ c.in_ok-wanted.ensures)
    (sym c.count_set.ensures ∙ many ∙ ap (λ (xs : List ℕ). length xs) setup.targets_are)
