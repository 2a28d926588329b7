use Rattle.std.proofs.Common.{get_or}
use Rattle.cut_laws.proofs.Numbers.{no_targets, sums_no_targets}
use Rattle.cut_laws.proofs.columns.no_targets_leave_no_conflicts.Goals as goal

pub returns-clause-trials : goal.returns-clause-trials
returns-clause-trials c = λ v t some none.
    no_targets c.receivers_are_the_rest.ensures c.proposes_at_least_place.ensures v t none some

pub returns-clause-sums : goal.returns-clause-sums
returns-clause-sums c = λ v ts some all.
    sums_no_targets v ts (λ i d below.
    no_targets c.receivers_are_the_rest.ensures c.proposes_at_least_place.ensures v (get_or ts i d) (all i d below)
    some)
