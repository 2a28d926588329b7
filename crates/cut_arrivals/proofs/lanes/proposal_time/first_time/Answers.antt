use Rattle.std.proofs.Common.{arith}
use Rattle.cut_arrivals.proofs.Insertions.{value_lane, length_lane}
use Rattle.cut_arrivals.proofs.lanes.proposal_time.first_time.Goals as goal

pub loop-place-init : goal.loop-place-init
loop-place-init c i low =
    grind arith

pub loop-place-preserved : goal.loop-place-preserved
loop-place-preserved c i low =
    grind (arith, length_lane, value_lane)

pub returns : goal.returns
returns c i low =
    grind (arith, length_lane)
