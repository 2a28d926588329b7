use Rattle.std.proofs.Common.{◌∙◌, ℕ, ◌/◌, List, map, ap}
use Rattle.std.proofs.lemmas.Simd.{map-map, zip2_splat}
use Rattle.cut_arrivals.proofs.blocks.images.quarter_of.Goals as goal

pub returns : goal.returns
returns c f rows is =
    zip2_splat _ c.args.word 4 2 c.fits-word.0 ∙ ap (λ (w : List ℕ). map (λ x. x / 4) w) is
    ∙ map-map (λ x. x / 4) f rows
