use Rattle.std.proofs.Common.{◌∙◌, ℕ, ◌+◌, ◌*◌, ◌^◌, List, sym, ap}
use Rattle.cut_arrivals.specs.blocks.Images.{eight, image_at, place_in, least_image}
use Rattle.cut_arrivals.proofs.Eights.{eight_moved}
use Rattle.cut_arrivals.proofs.Copies.{least_more, least_none}
use Rattle.cut_arrivals.proofs.blocks.blocks.Blocks.least.Goals as goal

pub loop-copy-init : goal.loop-copy-init
loop-copy-init c = least_none c.args.self.now c.args.block c.args.rows.first c.args.rows.four

pub loop-copy-preserved : goal.loop-copy-preserved
loop-copy-preserved c =
    let copy : ℕ = c.loop-copy.copy in
    let block : ℕ = c.args.block in
    let image : ℕ → ℕ → ℕ = λ q b. image_at c.args.self.now (place_in b q) in
    let by : ℕ → ℕ = λ row. row + (block + copy * 2 ^ 24) in
    c.lesser_of-both.ensures (least_image c.args.self.now copy block) (λ q row. image q (by row)) c.args.rows.first
    c.loop-copy.invariant
    (c.images-images.ensures ∙ ap (λ (bs : List ℕ). eight image bs) c.moved.ensures ∙ eight_moved image by
    c.args.rows.first)
    ∙ ap (λ (f : ℕ → ℕ → ℕ). eight f c.args.rows.first) (λ i q row. sym (least_more c.args.self.now copy block q row) i)
