use Rattle.cut_sets.proofs.CoverLemmas.{spans_cover, spans_within}
use Rattle.cut_sets.proofs.ranges.laws.spans_are_what_passes.Goals as goal

pub returns : goal.returns
returns c = record { cover = spans_cover; within = spans_within }
