use Rattle.std.proofs.Common.{◌∙◌, ℕ, sym, ap}
use Rattle.cut_arrivals.specs.blocks.Images.{eight, least_over}
use Rattle.cut_arrivals.proofs.Copies.{over_more, over_none}
use Rattle.cut_arrivals.proofs.blocks.images.least_at.Goals as goal

pub loop-copy-init : goal.loop-copy-init
loop-copy-init c f rows four are = over_none f rows four

pub loop-copy-preserved : goal.loop-copy-preserved
loop-copy-preserved c f rows four are =
    let copy : ℕ = c.loop-copy.copy in
    c.lesser_of-both.ensures (least_over f copy) (f copy) rows (c.loop-copy.invariant f rows four are)
    (are copy c.loop-copy-test.true)
    ∙ ap (λ (g : ℕ → ℕ → ℕ). eight g rows) (λ i q row. sym (over_more f copy q row) i)
