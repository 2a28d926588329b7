use Rattle.std.proofs.Common.{◌∙◌, ℕ, List, ap, slice_index, slice_index_or, []}
use Rattle.cut_arrivals.specs.blocks.Images.{least_image, row_of}
use Rattle.cut_arrivals.proofs.Drawn.{image_drawn}
use Rattle.cut_arrivals.proofs.receivers.images.Images.image.Goals as goal

pub returns : goal.returns
returns c i low =
    let images = c.args.self.now in
    let trial = images.trial in
    ap (λ (b : ℕ). slice_index (slice_index_or
    (slice_index_or images.drawn.now b []) c.from-2.result []) i) c.from.ensures
    ∙ ap (λ (q : ℕ). slice_index (slice_index_or
    (slice_index_or images.drawn.now c.args.key_place.block []) q []) i) c.from-2.ensures
    ∙ ap (λ (vs : List (List (List ℕ))). slice_index (slice_index_or
    (slice_index_or vs c.args.key_place.block []) c.args.key_place.key []) i) images.are_drawn
    ∙ image_drawn (λ block q row. least_image trial.blocks.now trial.copies block q row)
    (λ j. row_of 0 j) images.receivers
    trial.candidates.now.blocks.items c.args.key_place.block c.args.key_place.key i images.four c.requires.block
    c.requires.key low
