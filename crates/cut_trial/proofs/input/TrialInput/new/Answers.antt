use Rattle.std.proofs.Common.{arith}
use Rattle.cut_outcome.proofs.Outcomes.{rings_length}
use Rattle.cut_trial.proofs.input.TrialInput.new.Goals as goal

pub invariant_of-result : goal.invariant_of-result
invariant_of-result c = grind (arith, rings_length)
