use Rattle.std.proofs.Common.{◌∙◌, not, ap}
use Rattle.cut_sets.specs.ranges.Held.{has}
use Rattle.cut_sets.specs.ranges.Spans.{numbers_in}
use Rattle.cut_sets.proofs.SpanLemmas.{any_is}
use Rattle.cut_sets.proofs.ranges.range_set.RangeSet.overlaps.Goals as goal

pub returns : goal.returns
returns c = ap not c.is_all.ensures ∙ any_is (has c.args.self.now) (numbers_in c.args.span)
