use Rattle.std.proofs.Common.{◌≡◌}
use Rattle.cut_pool_tests.proofs.hall.deeds.Guest.play.Given as goal

-- the pass is still the hall's
abbrev pub invariant-loop-row : goal.invariant-loop-row
invariant-loop-row g l = l.pass.hall ≡ l.fn.pass.hall
