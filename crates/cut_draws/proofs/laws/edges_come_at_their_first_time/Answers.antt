use Rattle.cut_draws.proofs.FirstTimes.{early_by_first_time}
use Rattle.cut_draws.proofs.Heard.{none_at_first, stays, all_in_the_end}
use Rattle.cut_draws.proofs.laws.edges_come_at_their_first_time.Goals as goal

pub returns-clause-time : goal.returns-clause-time
returns-clause-time c = early_by_first_time

pub returns-clause-none : goal.returns-clause-none
returns-clause-none c = none_at_first

pub returns-clause-stays : goal.returns-clause-stays
returns-clause-stays c = stays

pub returns-clause-all : goal.returns-clause-all
returns-clause-all c = all_in_the_end
