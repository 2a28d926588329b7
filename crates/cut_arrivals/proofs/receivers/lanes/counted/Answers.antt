use Rattle.std.proofs.Common.{◌∙◌, ℕ, ◌+◌, ◌%◌, ◌^◌, ltb, List, replicate, slice_index, refl, ap}
use Rattle.cut_arrivals.proofs.RanksChoices.{choice, choice_four}
use Rattle.cut_arrivals.proofs.ReceiversChoices.{either_at, sum_at, one_more}
use Rattle.cut_arrivals.proofs.receivers.lanes.counted.Goals as goal

pub returns : goal.returns
returns c i low =
    let more : List ℕ = choice ltb c.args.image c.args.bound (replicate 4 1) (replicate 4 0) in
    sum_at c.args.count more c.fits-count.0
    (choice_four ltb c.args.image c.args.bound (replicate 4 1)
    (replicate 4 0) c.fits-image.0 c.fits-bound.0 refl refl) i low
    ∙ ap (λ (m : ℕ). (slice_index c.args.count i + m) % 2 ^ 32)
    (either_at ltb c.args.image c.args.bound 1 0 c.fits-image.0 c.fits-bound.0 i low)
    ∙ one_more (ltb (slice_index c.args.image i) (slice_index c.args.bound i)) (slice_index c.args.count i)
    (c.requires i low)
