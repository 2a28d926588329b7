use Rattle.cut_draws.proofs.Heard.{is_delivery}
use Rattle.cut_draws.proofs.FirstTimes.{count_of_all, count_by_copies}
use Rattle.cut_draws.proofs.laws.deliveries_are_copies_of_edges.Goals as goal

pub returns-clause-given : goal.returns-clause-given
returns-clause-given c = is_delivery

pub returns-clause-all : goal.returns-clause-all
returns-clause-all c = count_of_all

pub returns-clause-counted : goal.returns-clause-counted
returns-clause-counted c = count_by_copies
