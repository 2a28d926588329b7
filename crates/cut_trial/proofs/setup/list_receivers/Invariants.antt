use Rattle.std.proofs.Common.{◌≡◌, filter, not}
use Rattle.cut_outcome.proofs.Words.{range_with_len, is_target}
use Rattle.cut_trial.proofs.setup.list_receivers.Given as goal

abbrev pub invariant-loop-process : goal.invariant-loop-process
invariant-loop-process l = l.receivers.items ≡ filter (λ p. not (is_target l.roles p)) (range_with_len 0 l.process)
