use Rattle.std.proofs.Common.{◌∙◌, ℕ, ◌+◌, ◌%◌, ◌^◌, true, replicate, slice_index, refl, ap, arith}
use Rattle.std.proofs.lemmas.List.{get_or-replicate}
use Rattle.std.proofs.lemmas.Simd.{length-zip2}
use Rattle.cut_arrivals.proofs.ReceiversChoices.{sum_at, one_more}
use Rattle.cut_arrivals.proofs.receivers.lanes.next_of.Goals as goal

pub returns-clause-next : goal.returns-clause-next
returns-clause-next c i low few =
    sum_at c.args.time (replicate 4 1) c.fits-time.0 refl i low
    ∙ ap (λ (m : ℕ). (slice_index c.args.time i + m) % 2 ^ 32) (get_or-replicate 4 i 1 0 low)
    ∙ one_more true (slice_index c.args.time i) (omega (arith, few))

pub returns-clause-four : goal.returns-clause-four
returns-clause-four c = length-zip2 (λ x y. (x + y) % 2 ^ 32) c.args.time (replicate 4 1) c.fits-time.0 ∙ c.fits-time.0
