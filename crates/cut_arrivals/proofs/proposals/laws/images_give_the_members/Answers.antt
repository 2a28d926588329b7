use Rattle.cut_arrivals.proofs.ProposalsHeard.{closes_as_proposed}
use Rattle.cut_arrivals.proofs.proposals.laws.images_give_the_members.Goals as goal

pub returns : goal.returns
returns c = closes_as_proposed c.images_are_below_never.ensures
