use Rattle.std.proofs.Common.{◌≡◌, ℕ, ◌<◌, length}
use Rattle.cut_alerts.proofs.Suspects.{IsSeen}
use Rattle.cut_alerts.proofs.alerted.suspects.Given as goal

abbrev pub invariant-loop-process : goal.invariant-loop-process
invariant-loop-process g l = record {
  many : length l.suspects ≡ g.row.N;
  seen : (p : ℕ) → p < l.process → IsSeen l.rings l.roles l.k l.suspects p;
}
