use Rattle.cut_arrivals.proofs.Least.{images_are_least}
use Rattle.cut_arrivals.proofs.proposals.laws.images_stand_in_blocks.Goals as goal

pub returns : goal.returns
returns c = images_are_least c.deliveries_stand_in_blocks.ensures.place c.deliveries_stand_in_blocks.ensures.rows
