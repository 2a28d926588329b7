use Rattle.std.proofs.Common.{◌≡◌, ◌≤◌}
use Rattle.cut_hall.proofs.hall.Hall.submit.Given as goal

abbrev pub invariant-loop-study : goal.invariant-loop-study
invariant-loop-study g l = (l.plan ≡ l.fn.plan) × (l.study-end ≤ l.self.slots)
