use Rattle.std.proofs.Common.{◌∙◌, sym, arith}
use Rattle.cut_lists.proofs.Ranges.{none_passing}
use Rattle.cut_arrivals.specs.receivers.LaneVerdicts.{lane_verdict_in, is_proposal}
use Rattle.cut_trial.proofs.receiver_judge.ReceiverJudge.places.Goals as goal

pub returns-in_default-clause-unasked : goal.returns-in_default-clause-unasked
returns-in_default-clause-unasked c = λ two i low.
    none_passing (λ lane. is_proposal (lane_verdict_in c.args.lane_verdicts lane)) 0 4 i
    (sym c.has_proposals.ensures ∙ c.if-has_proposals.false) (omega arith) (omega (arith, low))
