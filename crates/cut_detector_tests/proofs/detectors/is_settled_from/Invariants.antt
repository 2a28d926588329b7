use Rattle.std.proofs.Common.{◌≡◌, ◌≤◌}
use Rattle.cut_detector_tests.proofs.detectors.is_settled_from.Given as goal

abbrev pub invariant-loop-edge : goal.invariant-loop-edge
invariant-loop-edge l = record {
  layout : l.detector.layout ≡ l.fn.detector.layout;
  rule : l.detector.rule ≡ l.fn.detector.rule;
  few : l.detector.deliveries ≤ l.edge-index;
}
