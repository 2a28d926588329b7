use Rattle.std.proofs.Common.{◌≡◌, ℕ, ◌-◌, List, length}
use Rattle.cut_rings.specs.Edges.{rings_to}
use Rattle.cut_detector.specs.Counts.{is_full}
use Rattle.cut_arrivals.specs.candidates.KeyPlaces.{AreKeyPlaces}
use Rattle.cut_arrivals.specs.candidates.inside.Reported.{alerts_of, rule_of_reported, AreCauses}
use Rattle.cut_arrivals.proofs.HeardLemmas.{edges_from}
use Rattle.cut_arrivals.proofs.candidates.reported.Reported.causes.Given as goal

abbrev pub invariant-loop-ring : goal.invariant-loop-ring
invariant-loop-ring l = record {
  edges : l.edges_left ≡ edges_from (λ ring. alerts_of l.self ring l.subject) l.subject l.ring (l.self.rule.k - l.ring);
  long : length l.key_places_left ≡ length l.edges_left;
  key_places : (blocks : List ℕ) → AreKeyPlaces l.self.rule.k blocks l.edges l.key_places
      → AreKeyPlaces l.self.rule.k blocks l.edges_left l.key_places_left;
  causes : (blocks : List ℕ) → AreKeyPlaces l.self.rule.k blocks l.edges l.key_places →
      AreCauses l.self blocks (rings_to l.ring
      (is_full l.self.rings.now (rule_of_reported l.self) (alerts_of l.self)) l.subject) l.subject l.causes.items;
}
