use Rattle.std.proofs.Common.{◌≡◌}
use Rattle.cut_pool_tests.proofs.hall.storms.slots_of.Given as goal

-- the pass is still the hall's
abbrev pub invariant-loop-number : goal.invariant-loop-number
invariant-loop-number g l = l.pass.hall ≡ l.fn.pass.hall
