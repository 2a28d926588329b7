use Rattle.cut_outcome.proofs.Earliest.{reaches_high, reaches_low}
use Rattle.cut_outcome.proofs.laws.settled_reaches_watermarks.Goals as goal

pub returns-clause-high : goal.returns-clause-high
returns-clause-high c = reaches_high c.proposes_at_least_place.ensures

pub returns-clause-low : goal.returns-clause-low
returns-clause-low c = reaches_low c.proposes_at_least_place.ensures
