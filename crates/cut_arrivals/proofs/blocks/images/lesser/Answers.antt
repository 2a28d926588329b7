use Rattle.std.proofs.Common.{◌∙◌, Bool, List, min, ltb, ap}
use Rattle.std.specs.Int.{w32}
use Rattle.std.specs.Simd.Lanes.{sel_l}
use Rattle.std.proofs.lemmas.Simd.{tops_compared, zip2_of_maps}
use Rattle.cut_arrivals.proofs.Eights.{chosen}
use Rattle.cut_arrivals.proofs.blocks.images.lesser.Goals as goal

pub returns : goal.returns
returns c f g rows left right =
    ap (λ (ms : List Bool). sel_l ms c.args.left c.args.right) (tops_compared w32 ltb c.args.left c.args.right)
    ∙ chosen c.args.left c.args.right ∙ zip2_of_maps min f g rows left right
