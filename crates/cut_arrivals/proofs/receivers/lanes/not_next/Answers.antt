use Rattle.std.proofs.Common.{◌∙◌, ℕ, cond, eqb, slice_index, ap}
use Rattle.cut_arrivals.proofs.ReceiversChoices.{either_at}
use Rattle.cut_arrivals.proofs.receivers.lanes.not_next.Goals as goal

pub returns : goal.returns
returns c i low few =
    either_at eqb c.args.until c.next_of.result 0 1 c.fits-until.0 c.next_of.ensures.four i low
    ∙ ap (λ (n : ℕ). cond {A = ℕ} (eqb (slice_index c.args.until i) n) 0 1) (c.next_of.ensures.next i low few)
