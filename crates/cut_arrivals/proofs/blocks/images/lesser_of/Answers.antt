use Rattle.std.proofs.Common.{◌≡◌, ℕ, min, List, [], slice_index_or, ap}
use Rattle.cut_arrivals.specs.blocks.Images.{eight}
use Rattle.cut_arrivals.proofs.Eights.{eight_from}
use Rattle.cut_arrivals.proofs.blocks.images.lesser_of.Goals as goal

pub returns : goal.returns
returns c f g rows left right =
    let at : (q : ℕ) → slice_index_or c.args.left q [] ≡ slice_index_or (eight f rows) q [] =
    λ q. ap (λ (l : List (List ℕ)). slice_index_or l q []) left in
    let beside : (q : ℕ) → slice_index_or c.args.right q [] ≡ slice_index_or (eight g rows) q [] =
    λ q. ap (λ (l : List (List ℕ)). slice_index_or l q []) right in
    eight_from (λ q row. min (f q row) (g q row)) rows c.lesser.result c.lesser-2.result c.lesser-3.result
    c.lesser-4.result c.lesser-5.result c.lesser-6.result c.lesser-7.result c.lesser-8.result
    (c.lesser.ensures (λ x. f 0 x) (λ x. g 0 x) rows (at 0) (beside 0))
    (c.lesser-2.ensures (λ x. f 1 x) (λ x. g 1 x) rows (at 1) (beside 1))
    (c.lesser-3.ensures (λ x. f 2 x) (λ x. g 2 x) rows (at 2) (beside 2))
    (c.lesser-4.ensures (λ x. f 3 x) (λ x. g 3 x) rows (at 3) (beside 3))
    (c.lesser-5.ensures (λ x. f 4 x) (λ x. g 4 x) rows (at 4) (beside 4))
    (c.lesser-6.ensures (λ x. f 5 x) (λ x. g 5 x) rows (at 5) (beside 5))
    (c.lesser-7.ensures (λ x. f 6 x) (λ x. g 6 x) rows (at 6) (beside 6))
    (c.lesser-8.ensures (λ x. f 7 x) (λ x. g 7 x) rows (at 7) (beside 7))
