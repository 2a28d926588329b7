-- Who observes a process.
use Rattle.std.proofs.Common.{◌≡◌, ◌∙◌, ℕ, ◌+◌, ◌%◌, ◌<◌, ◌==◌, inl, inr, Bool, true, false, length, ap, arith}
use Rattle.std.proofs.lemmas.Bool.{cases_lt, eq-eqb}
use Rattle.std.proofs.lemmas.List.Sums.{passes_at_first, fails_before_first}
use Rattle.cut_lists.proofs.Pigeonhole.{none_missed}
use Rattle.cut_lists.proofs.Rounds.{before}
use Rattle.cut_rings.specs.Layout.{Layout, IsLayout, Observes, observer_of, position_of, positions_on}

-- whether a place comes just before that of s
abbrev is_before : Layout → ℕ → ℕ → ℕ → Bool
is_before r ring s place = (place + 1) % r.nodes == position_of r ring s

pub observer_below : (r : Layout) → IsLayout r → (ring s : ℕ) → ring < length r.positions → s < r.nodes
    → observer_of r ring s < r.nodes
observer_below r layout ring s ring_in process = elim (cases_lt (observer_of r ring s) r.nodes) [
  | inl below ↦ below
  | inr beyond ↦ (
      let place = before r.nodes (position_of r ring s) (layout.in_range ring s ring_in process) in
      absurd (none_missed r.nodes place.0 (λ p. position_of r ring p) place.1.below
      (λ p low. layout.in_range ring p ring_in low)
      (λ p q low high e. layout.distinct ring p q ring_in low high e)
      (λ p low e.
      let fails : is_before r ring s (position_of r ring p)
      ≡ false = fails_before_first (is_before r ring s) (positions_on r ring) p 0 (omega arith) in
      let passes : is_before r ring s (position_of r ring p) ≡ true = ap (is_before r ring s) e
      ∙ eq-eqb _ _ place.1.next in
      cc)))
]

pub observer_is_process : (r : Layout) → IsLayout r → (ring s : ℕ) → ring < length r.positions → s < r.nodes
    → (observer_of r ring s < r.nodes) × Observes r ring (observer_of r ring s) s
observer_is_process r layout ring s ring_in process =
    grind (arith, observer_below, passes_at_first)
