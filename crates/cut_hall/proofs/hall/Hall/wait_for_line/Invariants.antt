use Rattle.std.proofs.Common.{◌≡◌}
use Rattle.cut_hall.proofs.hall.Hall.wait_for_line.Given as goal

-- no call was made so far
abbrev pub invariant-loop : goal.invariant-loop
invariant-loop g l =
    (goal.iterator-loop g).can_next l.iterator'
    × (goal.iterator-loop g).is_finite l.iterator'
    × (l.made.parts ≡ 1)
    × (l.made.amount ≡ l.fn.made.amount)
