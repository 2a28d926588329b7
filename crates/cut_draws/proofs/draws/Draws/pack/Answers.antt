use Rattle.std.proofs.Common.{◌∙◌, ◌++◌, map, ap, sym}
use Rattle.std.proofs.lemmas.List.{map-append}
use Rattle.cut_draws.specs.DeliveryOrder.{all_deliveries, copies_of}
use Rattle.cut_draws.specs.inside.Packed.{packed_at}
use Rattle.cut_draws.proofs.Copies.{one_more_copy}
use Rattle.cut_draws.proofs.draws.Draws.pack.Goals as goal

pub loop-copy-preserved : goal.loop-copy-preserved
loop-copy-preserved c =
    let edges = c.args.arrivals.edges.now in
    let copy = c.loop-copy.copy in
    let self = c.args.self.now in
    let receiver = c.args.arrivals.receiver in
    let k = c.args.arrivals.k in
    record {
      same = c.pack_copy.ensures.same ∙ c.loop-copy.invariant.same;
      keys =
          c.in_ok-pack_copy.ensures.keys
          ∙ ap (λ d. c.loop-copy.packed.items ++ map (λ x. packed_at d receiver k x) (copies_of edges copy))
          c.loop-copy.invariant.same
          ∙ ap (λ xs. xs ++ map (λ x. packed_at self receiver k x) (copies_of edges copy)) c.loop-copy.invariant.keys
          ∙ sym (ap (map (λ x. packed_at self receiver k x)) (one_more_copy edges copy)
          ∙ map-append (λ x. packed_at self receiver k x) (all_deliveries edges copy) (copies_of edges copy));
    }
