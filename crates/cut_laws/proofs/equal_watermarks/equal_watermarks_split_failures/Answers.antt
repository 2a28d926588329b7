use Rattle.cut_laws.proofs.EqualWatermarks.{all_or_none_silent, sums_two_targets, two_targets}
use Rattle.cut_laws.proofs.Plans.{cell_is}
use Rattle.cut_laws.proofs.equal_watermarks.equal_watermarks_split_failures.Goals as goal

pub returns-clause-silent : goal.returns-clause-silent
returns-clause-silent c = λ v t plan no_gap.
    all_or_none_silent c.equal_watermarks.ensures.unstable c.settled_ends_leave_none_silent.ensures
    c.only_who_ends_stable_is_proposed.ensures.none v t plan no_gap

pub returns-clause-trials : goal.returns-clause-trials
returns-clause-trials c = λ v t plan no_gap.
    two_targets c.one_process_is_proposed.ensures c.receivers_are_the_rest.ensures v t
    (cell_is c.cells_are_the_combinations.ensures v t plan no_gap.inside) no_gap

pub returns-clause-sums : goal.returns-clause-sums
returns-clause-sums c = λ v ts plan.
    sums_two_targets v (λ t no_gap.
    two_targets c.one_process_is_proposed.ensures c.receivers_are_the_rest.ensures v t
    (cell_is c.cells_are_the_combinations.ensures v t plan no_gap.inside) no_gap) ts
