use Rattle.cut_arrivals.proofs.Ends.{silent}
use Rattle.cut_arrivals.proofs.proposals.laws.none_proposes_where_none_ends_stable.Goals as goal

pub returns : goal.returns
returns c = silent
