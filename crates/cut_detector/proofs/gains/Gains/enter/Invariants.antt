use Rattle.std.proofs.Common.{◌≡◌, ℕ, ◌<◌, vec_len}
use Rattle.cut_detector.proofs.Words.{edges_in, is_gained, reported_in, rule_of_gains}
use Rattle.cut_detector.proofs.Neighbours.{with_gains}
use Rattle.cut_detector.proofs.gains.Gains.enter.Given as goal

abbrev pub invariant-loop-ring : goal.invariant-loop-ring
invariant-loop-ring l = record {
  rule : l.tally.rule ≡ l.initial.tally.rule;
  long : vec_len l.tally.full.masks ≡ vec_len l.initial.tally.full.masks;
  full : (ring p : ℕ) → p < l.self.rings.now.nodes → edges_in l.tally.full.masks.items ring p
      ≡ with_gains l.self.rings.now (is_gained l.self.rings.now (rule_of_gains l.self) (reported_in l.self)) l.process
      l.ring (edges_in l.initial.tally.full.masks.items) ring p;
}
