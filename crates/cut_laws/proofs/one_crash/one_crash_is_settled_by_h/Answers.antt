use Rattle.cut_laws.proofs.HighPlaces.{settled_by_h, sums_by_h}
use Rattle.cut_laws.proofs.one_crash.one_crash_is_settled_by_h.Goals as goal

pub returns-clause-trials : goal.returns-clause-trials
returns-clause-trials c = λ v t plan only two.
    settled_by_h c.receivers_are_the_rest.ensures c.one_crash_is_found.ensures.trials c.one_crash_is_found_by_h.ensures
    v plan only two t

pub returns-clause-sums : goal.returns-clause-sums
returns-clause-sums c = λ v h ts plan only two.
    sums_by_h c.receivers_are_the_rest.ensures c.one_crash_is_found.ensures.trials c.one_crash_is_found_by_h.ensures
    v plan only two h ts
