use Rattle.std.proofs.Common.{◌≡◌, ◌≤◌, take}
use Rattle.cut_detector.proofs.Words.{HasDelivered, rule_of}
use Rattle.cut_detector.proofs.detector.replay.Given as goal

abbrev pub invariant-loop-edge : goal.invariant-loop-edge
invariant-loop-edge l = record {
  delivered : HasDelivered l.detector (take l.edge-index l.edges);
  layout : l.detector.layout ≡ l.rings;
  rule : l.detector.rule ≡ rule_of l.k l.h l.l l.implicit;
  few : l.detector.deliveries ≤ l.edge-index;
}
