use Rattle.std.proofs.Common.{length, subst, arith}
use Rattle.cut_trial.specs.inside.Counted.{HasJudged}
use Rattle.cut_trial.proofs.Judged.{all_judged, few_judged}
use Rattle.cut_trial.proofs.receiver_judge.ReceiverJudge.judge.Goals as goal

pub judge_receivers-requires-clause-none : goal.judge_receivers-requires-clause-none
judge_receivers-requires-clause-none c = c.clear.ensures.none c.args.setup.roles.now

pub returns-clause-judged : goal.returns-clause-judged
returns-clause-judged c =
    let setup = c.args.setup in
    let x = setup.alerts.now in
    let d = c.args.draws.now in
    let rs = setup.receivers.now in
    subst (λ all. HasJudged setup.roles.now c.close.new.self all) (all_judged x d rs (length rs) (omega arith))
    (c.in_ok-close.ensures.judged setup.roles.now _ setup.targets_are
    (few_judged setup.roles.now x d rs (length rs) setup.receivers_are setup.nodes)
    c.in_ok-judge_receivers.ensures.judged)
