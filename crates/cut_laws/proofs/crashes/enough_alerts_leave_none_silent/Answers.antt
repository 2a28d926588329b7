use Rattle.cut_laws.proofs.Plans.{cell_is}
use Rattle.cut_laws.proofs.Silenced.{Known, none_silent}
use Rattle.cut_laws.proofs.crashes.enough_alerts_leave_none_silent.Goals as goal

pub returns : goal.returns
returns c = λ v t plan inside only some.
    let known : Known = record {
      rest = c.receivers_are_the_rest.ensures;
      settled = c.settled_ends_leave_none_silent.ensures;
      stable = c.targets_alone.ensures.stable;
      modes = c.unstable_are_reported_and_not_stable.ensures;
      unreported = c.none_is_marked_unheard.ensures.reported;
    } in
    none_silent known v t plan inside only (cell_is c.cells_are_the_combinations.ensures v t plan inside) some
