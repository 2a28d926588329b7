use Rattle.std.proofs.Common.{arith}
use Rattle.cut_arrivals.proofs.Closings.{begun_raised}
use Rattle.cut_arrivals.proofs.LanesChoices.{sum_below}
use Rattle.cut_arrivals.proofs.lanes.proposal_time.closing_time.Goals as goal

pub loop-later-init : goal.loop-later-init
loop-later-init c = c.first_time-time.ensures

pub loop-later-preserved : goal.loop-later-preserved
loop-later-preserved c i low =
    search (arith, begun_raised, c.loop-later.invariant, c.later_time-later.ensures)

pub loop-later-smaller : goal.loop-later-smaller
loop-later-smaller c =
    grind (arith, sum_below)

pub returns-then-not-has_risen : goal.returns-then-not-has_risen
returns-then-not-has_risen c i low =
    grind arith
