use Rattle.std.proofs.Common.{◌≡◌, [], All, length, replicate}
use Rattle.std.specs.Int.{div_ceil}
use Rattle.cut_sets.proofs.ranges.range_set.RangeSet.new.Given as goal

abbrev pub invariant-loop-section : goal.invariant-loop-section
invariant-loop-section l = record {
  len : length l.list.items ≡ l._section;
  none : All (λ s. s.blocks ≡ replicate (div_ceil l.section_len 65536) []) l.list.items;
}
