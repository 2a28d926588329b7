use Rattle.std.proofs.Common.{◌≡◌, ◌∙◌, length, arith}
use Rattle.std.proofs.lemmas.List.{length-map, length-replicate}
use Rattle.cut_sets.specs.ranges.inside.Blocks.{Blocks}
use Rattle.cut_sets.proofs.SetLemmas.{none_held}
use Rattle.cut_sets.proofs.ranges.range_set.RangeSet.new.Goals as goal

-- there are as many sections as were asked for
all_made : (c : goal.After-loop-section) → length c.loop-section.list.items ≡ c.args.sections
all_made c = omega (arith, c.loop-section.invariant.len)

pub invariant_of-result : goal.invariant_of-result
invariant_of-result c = grind (arith, length-replicate)

pub returns-clause-held : goal.returns-clause-held
returns-clause-held c =
    grind (arith, none_held)

pub returns-clause-room : goal.returns-clause-room
returns-clause-room c = length-map c.loop-section.list.items (λ (s : Blocks). s.room) ∙ all_made c
