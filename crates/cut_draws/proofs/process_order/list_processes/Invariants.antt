use Rattle.std.proofs.Common.{◌≡◌, map, take}
use Rattle.cut_draws.specs.inside.PackedProcesses.{process_in}
use Rattle.cut_draws.proofs.process_order.list_processes.Given as goal

abbrev pub invariant-loop-process : goal.invariant-loop-process
invariant-loop-process l = map process_in l.packed.items ≡ map (λ x. x.1) (take l.process-index l.keyed)
