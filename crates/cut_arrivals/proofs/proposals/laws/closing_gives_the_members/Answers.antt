use Rattle.cut_arrivals.proofs.Closes.{closes_as_settled}
use Rattle.cut_arrivals.proofs.proposals.laws.closing_gives_the_members.Goals as goal

pub returns : goal.returns
returns c = closes_as_settled
