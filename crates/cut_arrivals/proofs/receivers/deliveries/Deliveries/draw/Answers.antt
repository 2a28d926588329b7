use Rattle.std.proofs.Common.{rules, ◌≡◌, ℕ, ◌*◌, List, ◌++◌, map, take, drop, refl, arith}
use Rattle.cut_arrivals.specs.blocks.Images.{eight, least_image, row_of}
use Rattle.cut_arrivals.specs.receivers.inside.Places.{reception_to}
use Rattle.cut_arrivals.proofs.Drawn.{drawn_after}
use Rattle.cut_arrivals.proofs.receivers.deliveries.Deliveries.draw.Goals as goal

pub returns-clause-each : goal.returns-clause-each
returns-clause-each c i low knows =
    let d = c.args.self.now in
    let copy : ℕ = c.args.copy in
    let from : ℕ = copy * d.kept.blocks in
    let blocks : List ℕ = d.key_places.now.blocks.items in
    let are : c.draw_more.new.images.items ≡ take d.kept.known (drop from d.kept.images.now)
    ++ map (λ block. eight (least_image d.trial.blocks.now 1 block) (map (λ j. row_of copy j) d.receivers))
    (drop d.kept.known blocks) = grind arith in
    drawn_after c.images_are_below_never.ensures (reception_to d i) copy i from d.kept.known d.receivers blocks
    d.kept.images.now c.draw_more.new.images.items d.four low refl (search rules) d.first are
    (λ b q inside eighth. knows copy b q c.requires inside eighth)
