use Rattle.cut_arrivals.proofs.Found.{proposes_by_times}
use Rattle.cut_arrivals.proofs.proposals.laws.proposals_follow_from_times.Goals as goal

pub returns : goal.returns
returns c = proposes_by_times
