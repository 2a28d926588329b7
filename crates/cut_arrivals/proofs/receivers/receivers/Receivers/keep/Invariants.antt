use Rattle.std.proofs.Common.{◌≡◌}
use Rattle.cut_arrivals.specs.receivers.inside.Times.{AreCopies}
use Rattle.cut_arrivals.proofs.receivers.receivers.Receivers.keep.Given as goal

-- the copies so far are drawn
abbrev pub invariant-loop-copy : goal.invariant-loop-copy
invariant-loop-copy l = record {
  blocks : l.self.kept_blocks.items ≡ l.blocks;
  kept : AreCopies l.trial l.receivers l.copy l.self.kept.items;
}
