use Rattle.std.proofs.Common.{◌≡◌, ◌<◌, ◌≤◌, ℕ, true, map, length, get_or}
use Rattle.cut_sets.proofs.BlockLemmas.{AreFlipped, no_row}
use Rattle.cut_sets.proofs.ranges.section.Section.flip.Given as goal

abbrev pub invariant-loop-at : goal.invariant-loop-at
invariant-loop-at l = record {
  flipped : AreFlipped (map (λ e. e.edges) l.initial.self-inside.blocks.items)
      (map (λ e. e.edges) l.self-inside.blocks.items) l.from l.end l.at;
  room : (k : ℕ) → l.at ≤ k → k < length l.self-inside.blocks.items → (get_or l.self-inside.blocks.items k no_row).room
      ≡ true;
}
