use Rattle.cut_lists.proofs.Ranges.{ranges-join}
use Rattle.cut_outcome.proofs.Sum.{sums_add_up, parts_add_up}
use Rattle.cut_outcome.proofs.laws.sums_add_up.Goals as goal

pub returns-clause-lists : goal.returns-clause-lists
returns-clause-lists c = sums_add_up

pub returns-clause-trials : goal.returns-clause-trials
returns-clause-trials c = ranges-join

pub returns-clause-pieces : goal.returns-clause-pieces
returns-clause-pieces c = parts_add_up
