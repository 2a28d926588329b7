use Rattle.cut_trial.specs.inside.Judging.{AreFor, proposals_to}
use Rattle.cut_trial.specs.inside.Counted.{IsJudging}
use Rattle.cut_trial.proofs.receiver_judge.ReceiverJudge.judge_silent.Given as goal

abbrev pub invariant-loop : goal.invariant-loop
invariant-loop l = record {
  judging : IsJudging l.setup.roles.now l.self.outcome
      (proposals_to l.setup.alerts.now l.draws l.setup.receivers.now l.index);
  fit : AreFor l.setup.alerts.now.study l.setup.alerts.now.cell l.self;
}
