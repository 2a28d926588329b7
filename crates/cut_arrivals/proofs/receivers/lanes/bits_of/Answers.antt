use Rattle.cut_arrivals.proofs.RanksChoices.{bits_four}
use Rattle.cut_arrivals.proofs.receivers.lanes.bits_of.Goals as goal

pub returns-clause-four : goal.returns-clause-four
returns-clause-four c = bits_four c.args.marks c.fits-marks.0
