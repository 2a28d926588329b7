use Rattle.cut_laws.proofs.HighPlaces.{KnownOfDeliveries, by_high}
use Rattle.cut_laws.proofs.OneCrash.{Known, target}
use Rattle.cut_laws.proofs.Plans.{cell_is}
use Rattle.cut_laws.proofs.one_crash.one_crash_is_found_by_h.Goals as goal

pub returns : goal.returns
returns c = λ v t j plan only has.
    let known : Known = record {
      rest = c.receivers_are_the_rest.ensures;
      proposes = c.proposes_at_least_place.ensures;
      stable = c.targets_alone.ensures.stable;
      unstable = c.targets_alone.ensures.unstable;
      settled = c.settled_ends_leave_none_silent.ensures;
      members = c.only_who_ends_stable_is_proposed.ensures.members;
      others = c.only_who_ends_stable_is_proposed.ensures.others;
      most = c.right_is_decided.ensures.most;
      votes = c.decided_by_votes.ensures.trials;
    } in
    let laws : KnownOfDeliveries = record {
      order = c.distinct_edges_have_an_order.ensures.order;
      counted = c.deliveries_are_copies_of_edges.ensures.counted;
      given = c.deliveries_are_copies_of_edges.ensures.given;
      copied = c.deliveries_are_copies_of_edges.ensures.all;
      names = c.edge_numbers_name_edges.ensures.names;
      none_first = c.edges_come_at_their_first_time.ensures.none;
      modes = c.unstable_are_reported_and_not_stable.ensures;
    } in
    let cell = cell_is c.cells_are_the_combinations.ensures v t plan has.inside in
    let crashed = target known v t plan has.inside only cell has.one in
    by_high known v t plan has.inside only cell has.one laws crashed.0 crashed.1.passes j
