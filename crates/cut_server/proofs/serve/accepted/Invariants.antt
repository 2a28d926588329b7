use Rattle.std.proofs.Common.{◌≡◌, ◌≤◌, ◌*◌, ◌^◌, All, sum_by, take}
use Rattle.cut_slots.specs.Report.{IsAcceptedCount, IsEndOf, accepted_recorded}
use Rattle.cut_server.proofs.serve.accepted.Given as goal

-- the slots so far are added up
abbrev pub invariant-loop-study : goal.invariant-loop-study
invariant-loop-study l = record {
  sum : l.total ≡ sum_by (λ s. accepted_recorded s.history) (take l.study l.slots);
  small : l.total ≤ l.study * 2 ^ 64;
  legal : All (λ s. IsEndOf s.history s.complete) (take l.study l.slots);
  few : All (λ s. IsAcceptedCount (accepted_recorded s.history)) (take l.study l.slots);
}
