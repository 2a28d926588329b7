use Rattle.std.proofs.Common.{◌∙◌, ℕ, List, ltb, min, slice_index, ap}
use Rattle.cut_arrivals.proofs.RanksChoices.{choice, choice_at, choice_four, min_is, max_is}
use Rattle.cut_arrivals.proofs.receivers.lanes.earlier.Goals as goal

pub returns : goal.returns
returns c i low =
    let image : List ℕ = c.args.image in
    let own : List ℕ = c.args.own in
    let other : List ℕ = c.args.other in
    let later : List ℕ = choice ltb own other other own in
    let four = choice_four ltb own other other own c.fits-own.0 c.fits-other.0 c.fits-other.0 c.fits-own.0 in
    choice_at ltb image later image later c.fits-image.0 four c.fits-image.0 four i low
    ∙ min_is (slice_index image i) (slice_index later i)
    ∙ ap (λ t. min (slice_index image i) t)
    (choice_at ltb own other other own c.fits-own.0 c.fits-other.0 c.fits-other.0 c.fits-own.0 i low
    ∙ max_is (slice_index own i) (slice_index other i))
