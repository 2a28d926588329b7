use Rattle.std.proofs.Common.{◌≡◌, [], map, replicate}
use Rattle.cut_sets.proofs.ranges.section.Section.new.Given as goal

abbrev pub invariant-loop-block : goal.invariant-loop-block
invariant-loop-block l = map (λ e. e.edges) l.blocks.items ≡ replicate l._block []
