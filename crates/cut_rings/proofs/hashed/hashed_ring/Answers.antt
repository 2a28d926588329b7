use Rattle.std.proofs.Common.{List, ℕ, sym, subst}
use Rattle.cut_rings.specs.Hashed.{compare_hashed}
use Rattle.cut_lists.specs.Ranked.{IsRanked}
use Rattle.cut_rings.proofs.Orders.{ranked_positions}
use Rattle.cut_rings.proofs.Results.{IfOk-both}
use Rattle.cut_rings.proofs.hashed.hashed_ring.Goals as goal

pub returns-clause-positions : goal.returns-clause-positions
returns-clause-positions c =
    let compare = compare_hashed c.args.seed.now c.args.ring in
    let P : List ℕ → Type 0 = λ xs. IsRanked compare c.args.nodes xs in
    IfOk-both c.of_order.result _ _ _
    (λ r same inverse. ranked_positions compare c.args.nodes r.order.items r.positions.items
    (subst P (sym same) c.in_ok-order.ensures) inverse)
    c.of_order.ensures.order c.of_order.ensures.inverse
