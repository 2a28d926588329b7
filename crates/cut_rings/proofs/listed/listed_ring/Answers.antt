use Rattle.std.proofs.Common.{◌∙◌, map, ap}
use Rattle.std.specs.List.{range_with_len}
use Rattle.cut_rings.specs.Listed.{listed_position}
use Rattle.cut_rings.proofs.Results.{IfOk-both}
use Rattle.cut_rings.proofs.Neighbours.{listed_positions}
use Rattle.cut_rings.proofs.listed.listed_ring.Goals as goal

pub returns-clause-positions : goal.returns-clause-positions
returns-clause-positions c =
    let n = c.args.nodes in
    IfOk-both c.of_order.result _ _ _
    (λ r same inverse. listed_positions n r.order.items r.positions.items inverse
    ∙ ap (λ list. map (λ p. listed_position list p) (range_with_len 0 n)) (same ∙ c.in_ok-order.ensures.items))
    c.of_order.ensures.order c.of_order.ensures.inverse
