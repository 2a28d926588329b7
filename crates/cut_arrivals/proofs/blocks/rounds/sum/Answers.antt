use Rattle.std.proofs.Common.{◌∙◌, sym}
use Rattle.std.proofs.lemmas.Simd.{length-zip2}
use Rattle.cut_arrivals.proofs.blocks.rounds.sum.Goals as goal

pub returns-clause-four : goal.returns-clause-four
returns-clause-four c = length-zip2 _ c.args.a c.args.b (c.fits-a.0 ∙ sym c.fits-b.0) ∙ c.fits-a.0
