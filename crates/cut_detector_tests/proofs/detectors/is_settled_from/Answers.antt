-- A turn of the loop delivers one entry more.
use Rattle.std.proofs.Common.{◌∙◌, arith}
use Rattle.cut_detector_tests.proofs.detectors.is_settled_from.Goals as goal

pub loop-edge-preserved : goal.loop-edge-preserved
loop-edge-preserved c = record {
  layout = c.deliver-step.ensures.layout ∙ c.loop-edge.invariant.layout;
  rule = c.deliver-step.ensures.rule ∙ c.loop-edge.invariant.rule;
  few = omega (arith, c.deliver-step.ensures.counted, c.loop-edge.invariant.few);
}
