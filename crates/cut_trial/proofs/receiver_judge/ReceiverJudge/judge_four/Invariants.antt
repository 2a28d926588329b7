use Rattle.std.proofs.Common.{◌≡◌, ◌+◌}
use Rattle.cut_trial.specs.inside.Judging.{AreFor, proposals_to}
use Rattle.cut_trial.specs.inside.Counted.{IsJudging}
use Rattle.cut_trial.proofs.receiver_judge.ReceiverJudge.judge_four.Given as goal

-- the receivers so far have been judged, by the times that were computed for all four
abbrev pub invariant-loop-lane : goal.invariant-loop-lane
invariant-loop-lane l = record {
  judged : IsJudging l.context.setup.roles.now l.self.outcome
      (proposals_to l.context.setup.alerts.now l.fn.draws l.context.setup.receivers.now (l.first + l.lane));
  fit : AreFor l.context.setup.alerts.now.study l.context.setup.alerts.now.cell l.self;
  times : l.self.times ≡ l.initial.self.times;
  draws : l.draws ≡ l.fn.draws;
}
