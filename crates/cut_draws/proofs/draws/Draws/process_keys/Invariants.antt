use Rattle.std.proofs.Common.{◌≡◌, map}
use Rattle.std.specs.List.{range_with_len}
use Rattle.cut_draws.specs.Source.{key_at}
use Rattle.cut_draws.specs.ProcessOrder.{process_place}
use Rattle.cut_draws.proofs.draws.Draws.process_keys.Given as goal

abbrev pub invariant-loop-process : goal.invariant-loop-process
invariant-loop-process l = record {
  same : l.self ≡ l.fn.self;
  keys : l.keyed.items ≡ map (λ p. (key_at l.fn.self (process_place p), p)) (range_with_len 0 l.process);
}
