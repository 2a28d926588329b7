use Rattle.std.proofs.Common.{◌≡◌, filter}
use Rattle.cut_outcome.proofs.Words.{range_with_len, is_target}
use Rattle.cut_trial.proofs.setup.list_targets.Given as goal

abbrev pub invariant-loop-process : goal.invariant-loop-process
invariant-loop-process l = l.targets.items ≡ filter (λ p. is_target l.roles p) (range_with_len 0 l.process)
