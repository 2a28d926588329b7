use Rattle.cut_sets.proofs.BlockLemmas.{AreReserved}
use Rattle.cut_sets.proofs.ranges.section.Section.reserve.Given as goal

abbrev pub invariant-loop-at : goal.invariant-loop-at
invariant-loop-at l = AreReserved l.initial.self-inside.blocks.items l.self-inside.blocks.items l.at
