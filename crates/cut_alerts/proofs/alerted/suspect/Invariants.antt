use Rattle.std.proofs.Common.{◌≡◌, ℕ, ◌<◌, true, length}
use Rattle.cut_rings.specs.Layout.{Observes}
use Rattle.cut_alerts.specs.inside.Suspects.{is_marked}
use Rattle.cut_alerts.proofs.alerted.suspect.Given as goal

abbrev pub invariant-loop-ring : goal.invariant-loop-ring
invariant-loop-ring l = record {
  many : length l.suspects ≡ length l.fn.suspects;
  own : is_marked l.suspects l.process ≡ true;
  kept : (s : ℕ) → is_marked l.fn.suspects s ≡ true → is_marked l.suspects s ≡ true;
  subjects : (ring s : ℕ) → ring < l.ring → s < l.rings.nodes → Observes l.rings ring l.process s
      → is_marked l.suspects s ≡ true;
}
