use Rattle.cut_laws.proofs.Plans.{cell_is}
use Rattle.cut_laws.proofs.Whole.{none_silent}
use Rattle.cut_laws.proofs.ends.settled_ends_leave_none_silent.Goals as goal

pub returns : goal.returns
returns c = λ v t plan inside.
    none_silent c.deliveries_are_copies_of_edges.ensures.all c.edges_come_at_their_first_time.ensures.all
    c.none_is_marked_unheard.ensures.stable c.proposes_at_least_place.ensures v t plan.some_copies
    (cell_is c.cells_are_the_combinations.ensures v t plan inside) c.receivers_are_the_rest.ensures
