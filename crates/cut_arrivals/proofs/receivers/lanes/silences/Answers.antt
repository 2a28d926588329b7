use Rattle.std.proofs.Common.{ltb, replicate, refl}
use Rattle.cut_arrivals.specs.blocks.Images.{never}
use Rattle.std.proofs.Common.{◌∙◌, ℕ, cond, slice_index, ap}
use Rattle.std.proofs.lemmas.List.{get_or-replicate}
use Rattle.cut_arrivals.proofs.ReceiversChoices.{either_at}
use Rattle.cut_arrivals.proofs.receivers.lanes.silences.Goals as goal

pub returns : goal.returns
returns c i low =
    either_at ltb c.args.time (replicate 4 never) 0 1 c.fits-time.0 refl i low
    ∙ ap (λ (end : ℕ). cond {A = ℕ} (ltb (slice_index c.args.time i) end) 0 1) (get_or-replicate 4 i never 0 low)
