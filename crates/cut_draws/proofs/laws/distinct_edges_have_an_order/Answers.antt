use Rattle.cut_draws.proofs.Sorting.{order_exists, at_rank}
use Rattle.cut_draws.proofs.laws.distinct_edges_have_an_order.Goals as goal

pub returns-clause-order : goal.returns-clause-order
returns-clause-order c = order_exists

pub returns-clause-ranks : goal.returns-clause-ranks
returns-clause-ranks c = at_rank
