use Rattle.cut_status.specs.inside.Study.{IsUnderWay}
use Rattle.cut_status.proofs.reading.tally_of.Given as goal

-- some slips were read and added, and the others are still to be read
abbrev pub invariant-loop-tally : goal.invariant-loop-tally
invariant-loop-tally l = IsUnderWay l.fn.plan l.bytes l.tally l.slips

abbrev pub decreases-loop-tally : goal.decreases-loop-tally
decreases-loop-tally l = l.slips.left
