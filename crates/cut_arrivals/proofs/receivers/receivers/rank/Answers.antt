use Rattle.std.proofs.lemmas.Grind.{common_steps}
use Rattle.std.proofs.Common.{arith}
use Rattle.cut_lists.proofs.Maps.{map-map}
use Rattle.cut_arrivals.proofs.ReceiversChoices.{lane_more}
use Rattle.cut_arrivals.proofs.ReceiversPlaced.{candidate_read}
use Rattle.cut_arrivals.proofs.receivers.receivers.rank.Goals as goal

pub times-requires-clause-candidate : goal.times-requires-clause-candidate
times-requires-clause-candidate c =
    grind (arith, candidate_read)

pub loop-candidate-init : goal.loop-candidate-init
loop-candidate-init c = grind arith

pub loop-candidate-preserved : goal.loop-candidate-preserved
loop-candidate-preserved c =
    grind (arith, common_steps, lane_more)

pub returns-clause-reported_at : goal.returns-clause-reported_at
returns-clause-reported_at c i low =
    grind (arith, common_steps, map-map)

pub returns-clause-stable_at : goal.returns-clause-stable_at
returns-clause-stable_at c =
    grind arith
