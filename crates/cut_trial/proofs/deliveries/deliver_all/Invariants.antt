use Rattle.std.proofs.Common.{◌≡◌, ◌≤◌, map, take}
use Rattle.cut_outcome.proofs.Words.{Delivery, HasDelivered}
use Rattle.cut_trial.proofs.deliveries.deliver_all.Given as goal

abbrev pub invariant-loop-i : goal.invariant-loop-i
invariant-loop-i l = record {
  delivered : HasDelivered l.detector (map (λ (x : Delivery). x.edge) (take l.i l.order));
  layout : l.detector.layout ≡ l.fn.detector.layout;
  rule : l.detector.rule ≡ l.fn.detector.rule;
  few : l.detector.deliveries ≤ l.i;
}
