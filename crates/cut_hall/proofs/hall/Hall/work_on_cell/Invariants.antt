use Rattle.std.proofs.Common.{◌≡◌, ◌≤◌}
use Rattle.cut_hall.proofs.hall.Hall.work_on_cell.Given as goal

-- the pass is still the hall's, and made no fewer calls
abbrev pub invariant-loop : goal.invariant-loop
invariant-loop g l =
    (goal.iterator-loop g).can_next l.iterator'
    × (goal.iterator-loop g).is_finite l.iterator'
    × (l.pass.hall ≡ l.fn.pass.hall)
    × (l.fn.pass.made ≤ l.pass.made)
