use Rattle.std.proofs.Common.{◌≡◌}
use Rattle.cut_pool_tests.proofs.hall.storms.play.Given as goal

-- the pass is still the hall's
abbrev pub invariant-loop : goal.invariant-loop
invariant-loop g l = l.pass.hall ≡ l.fn.pass.hall
