use Rattle.std.proofs.Common.{◌≡◌, ℕ, ◌/◌, List, [], slice_index_or, ap}
use Rattle.cut_arrivals.specs.blocks.Images.{eight}
use Rattle.cut_arrivals.proofs.Eights.{eight_from}
use Rattle.cut_arrivals.proofs.blocks.images.images_of.Goals as goal

pub returns : goal.returns
returns c f rows is =
    let at : (q : ℕ) → slice_index_or c.args.words q []
    ≡ slice_index_or (eight f rows) q [] = λ q. ap (λ (l : List (List ℕ)). slice_index_or l q []) is in
    eight_from (λ q row. f q row / 4) rows c.quarter_of.result c.quarter_of-2.result c.quarter_of-3.result
    c.quarter_of-4.result c.quarter_of-5.result c.quarter_of-6.result c.quarter_of-7.result c.quarter_of-8.result
    (c.quarter_of.ensures (λ x. f 0 x) rows (at 0)) (c.quarter_of-2.ensures (λ x. f 1 x) rows (at 1))
    (c.quarter_of-3.ensures (λ x. f 2 x) rows (at 2)) (c.quarter_of-4.ensures (λ x. f 3 x) rows (at 3))
    (c.quarter_of-5.ensures (λ x. f 4 x) rows (at 4)) (c.quarter_of-6.ensures (λ x. f 5 x) rows (at 5))
    (c.quarter_of-7.ensures (λ x. f 6 x) rows (at 6)) (c.quarter_of-8.ensures (λ x. f 7 x) rows (at 7))
