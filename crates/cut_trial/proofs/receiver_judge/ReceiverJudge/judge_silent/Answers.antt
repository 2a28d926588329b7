use Rattle.std.proofs.Common.{◌≡◌, ℕ, Option, Some, None, option_map, get_or, ap, sym, subst, ◌∙◌}
use Rattle.cut_trial.specs.inside.Judging.{proposed_by, proposals_to}
use Rattle.cut_outcome.proofs.Words.{IfSome, IsPlaced, Proposal}
use Rattle.cut_trial.proofs.Judged.{few_judged, one_more_judged}
use Rattle.cut_trial.proofs.receiver_judge.ReceiverJudge.judge_silent.Goals as goal

pub loop-preserved : goal.loop-preserved
loop-preserved c =
    let setup = c.args.setup in
    let d = c.args.draws.now in
    let n : ℕ = c.loop.index in
    let rs = setup.receivers.now in
    let version = c.loop.self.outcome.version in
    let p : Option Proposal = proposed_by setup.alerts.now d (get_or rs n 0) in
    let none : p ≡ None = c.requires.silent (get_or rs n 0) in
    record {
      judging = rw (one_more_judged setup.alerts.now d rs n c.loop-test.true)
          (c.in_ok-add.ensures.judging p (proposals_to setup.alerts.now d rs n)
          (sym (ap (option_map (λ (x : Proposal). x.members)) none))
          (subst (λ o. IfSome o (λ x. IsPlaced version 0 (Some x))) (sym none) tt)
          (few_judged setup.roles.now setup.alerts.now d rs n setup.receivers_are setup.nodes)
          c.loop.invariant.judging);
      fit = record {
        replays = c.loop.invariant.fit.replays;
        version = c.in_ok-add.ensures.version ∙ c.loop.invariant.fit.version;
      };
    }
