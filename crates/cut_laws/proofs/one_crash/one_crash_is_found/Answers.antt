use Rattle.std.proofs.Common.{get_or}
use Rattle.cut_laws.proofs.OneCrash.{Known, one_crash, sums_one_crash}
use Rattle.cut_laws.proofs.Plans.{cell_is}
use Rattle.cut_laws.proofs.one_crash.one_crash_is_found.Goals as goal

known : goal.After-targets_alone → Known
known c = record {
  rest = c.receivers_are_the_rest.ensures;
  proposes = c.proposes_at_least_place.ensures;
  stable = c.targets_alone.ensures.stable;
  unstable = c.targets_alone.ensures.unstable;
  settled = c.settled_ends_leave_none_silent.ensures;
  members = c.only_who_ends_stable_is_proposed.ensures.members;
  others = c.only_who_ends_stable_is_proposed.ensures.others;
  most = c.right_is_decided.ensures.most;
  votes = c.decided_by_votes.ensures.trials;
}

pub returns-clause-trials : goal.returns-clause-trials
returns-clause-trials c = λ v t plan only has.
    one_crash (known c) v t plan has.inside only
    (cell_is c.cells_are_the_combinations.ensures v t plan has.inside) has.one

pub returns-clause-sums : goal.returns-clause-sums
returns-clause-sums c = λ v ts plan only all.
    sums_one_crash v ts (λ i d below.
    one_crash (known c) v (get_or ts i d) plan (all i d below).inside only
    (cell_is c.cells_are_the_combinations.ensures v (get_or ts i d) plan (all i d below).inside) (all i d below).one)
