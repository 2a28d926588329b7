use Rattle.cut_arrivals.proofs.ProposalsPlaced.{closes_at_place}
use Rattle.cut_arrivals.proofs.proposals.laws.images_give_the_place.Goals as goal

pub returns : goal.returns
returns c = closes_at_place c.images_are_below_never.ensures
