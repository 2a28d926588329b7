use Rattle.std.proofs.Common.{◌≡◌, ◌*◌}
use Rattle.cut_trial.specs.inside.Judging.{AreFor, proposals_to}
use Rattle.cut_trial.specs.inside.Counted.{IsJudging}
use Rattle.cut_trial.proofs.receiver_judge.ReceiverJudge.judge_all.Given as goal

abbrev pub invariant-loop-four : goal.invariant-loop-four
invariant-loop-four l = record {
  judged : IsJudging l.context.setup.roles.now l.self.outcome
      (proposals_to l.context.setup.alerts.now l.fn.draws l.context.setup.receivers.now (4 * l.four));
  fit : AreFor l.context.setup.alerts.now.study l.context.setup.alerts.now.cell l.self;
  draws : l.draws ≡ l.fn.draws;
}
