use Rattle.std.proofs.Common.{arith}
use Rattle.std.proofs.lemmas.List.{get_or_read}
use Rattle.cut_sets.proofs.SetLemmas.{are_in, others_stay, span_put}
use Rattle.cut_sets.proofs.ranges.range_set.RangeSet.insert.Goals as goal

pub index_mut-requires : goal.index_mut-requires
index_mut-requires c =
    grind (arith, are_in)

pub insert-requires-clause-within : goal.insert-requires-clause-within
insert-requires-clause-within c =
    grind (arith, are_in)

pub returns-clause-held : goal.returns-clause-held
returns-clause-held c =
    grind (arith, are_in, get_or_read, span_put)

pub returns-clause-others : goal.returns-clause-others
returns-clause-others c =
    grind (arith, are_in, others_stay)
