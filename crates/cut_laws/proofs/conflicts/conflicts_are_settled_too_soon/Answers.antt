use Rattle.cut_laws.proofs.TooSoon.{receiver_too_soon, too_soon}
use Rattle.cut_laws.proofs.conflicts.conflicts_are_settled_too_soon.Goals as goal

pub returns-clause-sets : goal.returns-clause-sets
returns-clause-sets c = too_soon c.more_edges_only_add.ensures.stable c.proposes_at_least_place.ensures

pub returns-clause-trials : goal.returns-clause-trials
returns-clause-trials c =
    receiver_too_soon c.more_edges_only_add.ensures.stable c.proposes_at_least_place.ensures
    c.edges_come_at_their_first_time.ensures.stays
