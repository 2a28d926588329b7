use Rattle.std.proofs.Common.{◌∙◌, ℕ, cond, ltb, replicate, slice_index, refl, ap}
use Rattle.std.proofs.lemmas.List.{get_or-replicate}
use Rattle.cut_arrivals.proofs.RanksChoices.{choice_at}
use Rattle.cut_arrivals.proofs.receivers.lanes.marked_late.Goals as goal

pub returns : goal.returns
returns c i low =
    choice_at ltb c.args.time c.args.high
    (replicate 4 1) c.args.marks c.fits-time.0 c.fits-high.0 refl c.fits-marks.0 i low
    ∙ ap (λ (one : ℕ). cond (ltb (slice_index c.args.time i) (slice_index c.args.high i)) one
    (slice_index c.args.marks i)) (get_or-replicate 4 i 1 0 low)
