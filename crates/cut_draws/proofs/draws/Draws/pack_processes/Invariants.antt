use Rattle.std.proofs.Common.{◌≡◌, map}
use Rattle.std.specs.List.{range_with_len}
use Rattle.cut_draws.specs.Source.{key_at}
use Rattle.cut_draws.specs.ProcessOrder.{process_place}
use Rattle.cut_draws.specs.inside.PackedProcesses.{packed_process}
use Rattle.cut_draws.proofs.draws.Draws.pack_processes.Given as goal

abbrev pub invariant-loop-process : goal.invariant-loop-process
invariant-loop-process l = record {
  same : l.self ≡ l.fn.self;
  keys : l.packed.items ≡ map (λ p. packed_process (key_at l.fn.self (process_place p)) p)
      (range_with_len 0 l.process);
}
