-- The least image over the copies.
use Rattle.std.proofs.Common.{◌≡◌, ℕ, ◌+◌, ◌*◌, ◌^◌, List, min, length, replicate, refl, arith}
use Rattle.std.proofs.lemmas.List.Sums.{fold-append}
use Rattle.cut_lists.proofs.Ranges.{range_with_len_more}
use Rattle.cut_draws.specs.Source.{Source}
use Rattle.cut_arrivals.specs.blocks.Images.{eight, never, image_at, place_in, least_image, least_over}
use Rattle.cut_arrivals.proofs.BlocksLanes.{of_four}

pub least_more : (d : Source) (copies block q row : ℕ) → least_image d (copies + 1) block q row
    ≡ min (least_image d copies block q row) (image_at d (place_in (row + (block + copies * 2 ^ 24)) q))
unfolding least_image
least_more d copies block q row =
    grind (arith, range_with_len_more 0 copies copies, fold-append)

-- of no copies
pub least_none : (d : Source) (block : ℕ) (rows : List ℕ) → length rows ≡ 4
    → replicate 8 (replicate 4 never) ≡ eight (least_image d 0 block) rows
unfolding least_image
least_none d block = of_four (λ rows. replicate 8 (replicate 4 never) ≡ eight (least_image d 0 block) rows)
    (λ a b c e. refl)

-- the same of what any function gives
pub over_more : (f : ℕ → ℕ → ℕ → ℕ) (copies q row : ℕ)
    → least_over f (copies + 1) q row ≡ min (least_over f copies q row) (f copies q row)
unfolding least_over
over_more f copies q row =
    grind (arith, range_with_len_more 0 copies copies, fold-append)

pub over_none : (f : ℕ → ℕ → ℕ → ℕ) (rows : List ℕ) → length rows ≡ 4
    → replicate 8 (replicate 4 never) ≡ eight (least_over f 0) rows
unfolding least_over
over_none f = of_four (λ rows. replicate 8 (replicate 4 never) ≡ eight (least_over f 0) rows) (λ a b c e. refl)
