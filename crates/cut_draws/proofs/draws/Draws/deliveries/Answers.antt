use Rattle.std.proofs.Common.{List, sym, subst}
use Rattle.std.proofs.lemmas.Result.{IfOk-weaker}
use Rattle.cut_draws.specs.declared.delivery.Delivery.{Delivery}
use Rattle.cut_draws.specs.DeliveryOrder.{IsDeliveryOrder}
use Rattle.cut_draws.proofs.draws.Draws.deliveries.Goals as goal

pub returns-clause-order : goal.returns-clause-order
returns-clause-order c =
    let Q : List Delivery → Type 0 = IsDeliveryOrder c.args.self.now c.args.receiver c.args.k c.args.edges.now
    c.args.copies in
    IfOk-weaker c.to_vec.result _ _ (λ v same. subst Q (sym same) c.in_ok-order_deliveries.ensures.order)
    c.to_vec.ensures
