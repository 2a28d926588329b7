use Rattle.cut_laws.proofs.Whole.{all_silent, missed, no_extra, only_stable}
use Rattle.cut_laws.proofs.ends.only_who_ends_stable_is_proposed.Goals as goal

pub returns-clause-members : goal.returns-clause-members
returns-clause-members c =
    only_stable c.deliveries_are_copies_of_edges.ensures.given c.more_edges_only_add.ensures.stable
    c.proposes_at_least_place.ensures

pub returns-clause-missed : goal.returns-clause-missed
returns-clause-missed c = λ v t.
    missed c.deliveries_are_copies_of_edges.ensures.given c.more_edges_only_add.ensures.stable
    c.proposes_at_least_place.ensures v t c.receivers_are_the_rest.ensures

pub returns-clause-others : goal.returns-clause-others
returns-clause-others c = λ v t.
    no_extra c.deliveries_are_copies_of_edges.ensures.given c.more_edges_only_add.ensures.stable
    c.proposes_at_least_place.ensures v t c.receivers_are_the_rest.ensures

pub returns-clause-none : goal.returns-clause-none
returns-clause-none c = λ v t.
    all_silent c.deliveries_are_copies_of_edges.ensures.given c.more_edges_only_add.ensures.stable
    c.proposes_at_least_place.ensures v t c.receivers_are_the_rest.ensures
