use Rattle.std.proofs.Common.{◌≡◌, ◌++◌, map, take}
use Rattle.cut_draws.specs.inside.Packed.{packed_at}
use Rattle.cut_draws.specs.DeliveryOrder.{copies_of}
use Rattle.cut_draws.proofs.draws.Draws.pack_copy.Given as goal

abbrev pub invariant-loop-edge : goal.invariant-loop-edge
invariant-loop-edge l = record {
  same : l.self ≡ l.fn.self;
  keys : l.words.items ≡ l.fn.words.items ++ map (λ x. packed_at l.fn.self l.arrivals.receiver l.arrivals.k x)
      (copies_of (take l.edge-index l.arrivals.edges.now) l.copy);
}
