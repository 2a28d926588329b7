use Rattle.std.proofs.Common.{◌≡◌, map}
use Rattle.cut_draws.specs.inside.Packed.{packed_at}
use Rattle.cut_draws.specs.DeliveryOrder.{all_deliveries}
use Rattle.cut_draws.proofs.draws.Draws.pack.Given as goal

abbrev pub invariant-loop-copy : goal.invariant-loop-copy
invariant-loop-copy l = record {
  same : l.self ≡ l.fn.self;
  keys : l.packed.items ≡ map (λ x. packed_at l.fn.self l.arrivals.receiver l.arrivals.k x)
      (all_deliveries l.arrivals.edges.now l.copy);
}
