use Rattle.std.proofs.Common.{◌≡◌, ◌∙◌, ℕ, List, map, ap, sym, subst, arith}
use Rattle.std.specs.Bool.{IsTrue}
use Rattle.cut_rings.specs.declared.edge.Edge.{Edge}
use Rattle.cut_rings.specs.Edges.{are_edges_of}
use Rattle.cut_draws.specs.declared.delivery.Delivery.{Delivery}
use Rattle.cut_trial_tests.proofs.receivers.replays.replayed.Goals as goal

pub replay-requires-clause-within : goal.replay-requires-clause-within
replay-requires-clause-within c =
    let n : ℕ = c.args.scene.trial.rings.now.nodes in
    let same : c.deref-2.result.now ≡ map (λ (x : Delivery). x.edge) c.in_ok-order.order.items =
    c.deref-2.ensures.value ∙ c.in_ok-edges.ensures
    ∙ ap (λ (xs : List Delivery). map (λ (x : Delivery). x.edge) xs) c.deref.ensures.value in
    subst (λ (es : List Edge). IsTrue (are_edges_of c.args.scene.trial.rule.k n es)) (sym same)
    (c.in_ok-order.ensures.order.still_within n (c.args.scene.inside n (omega arith)))
