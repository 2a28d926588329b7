-- The roles and the alerts of a trial in which one process crashes and nothing else fails.
use Rattle.std.proofs.Common.{◌≡◌, ◌⊎◌, ◌≢◌, ℕ, ◌+◌, ◌%◌, ◌<◌, ◌≤◌, Bool, true, false, not, List, length, map}
use Rattle.std.proofs.Common.{get_or, sym, ap, ◌∙◌, arith, zero-add}
use Rattle.cut_laws.proofs.Words.{Assignment, IsPlan, Layout, Source, Values, alert_list, alerts_about}
use Rattle.cut_laws.proofs.Words.{deaf_of, drawn, has_crashed, is_target}
use Rattle.cut_laws.proofs.Words.{observer_of, position_of, positions_on, range_with_len}
use Rattle.cut_laws.proofs.Words.{rings_of, role_at, set_of, ◌==◌}
use Rattle.cut_alerts.specs.declared.role.Role.TheVariants.{Healthy, Crashed}
use Rattle.cut_plan.specs.Cells.{largest}
use Rattle.cut_rings.specs.Hashed.{compare_hashed, digest_of, hashed_position}
use Rattle.std.specs.Cmp.{IsTotalOrder}
use Rattle.std.specs.List.{position_or_len}
use Rattle.std.proofs.lemmas.Bool.{and_from, eqb-true, or_left}
use Rattle.std.proofs.lemmas.Cmp.{nat_cmp_total, nat_list_cmp_total, on_total, then_total}
use Rattle.std.proofs.lemmas.List.{get_or_past}
use Rattle.std.proofs.lemmas.List.FromFn.{get_or-map-range_with_len, length-map-range_with_len, length-range_with_len}
use Rattle.std.proofs.lemmas.List.Sums.{passes_at_first}
use Rattle.cut_lists.proofs.Ranges.{Contains-range_with_len}
use Rattle.cut_lists.proofs.Ranks.{rank-below}
use Rattle.cut_outcome.proofs.Heard.{among_all, listed}

-- ---- who has crashed

pub crashed_or_healthy : (v : Values) (f : ℕ) (d : Source) (r : Layout) → deaf_of v f ≡ 0 → v.liars ≡ 0 → v.links ≡ 0
    → (p : ℕ) → (role_at (drawn v f d r) p ≡ Crashed) ⊎ (role_at (drawn v f d r) p ≡ Healthy)
crashed_or_healthy v f d r no_deaf no_liars no_links p =
    grind (arith, get_or-map-range_with_len, get_or_past, length-map-range_with_len)

-- ---- who alerts

-- where each process has crashed or is healthy, alerts are about targets
pub alerted_is_target : (a : Assignment) → ((p : ℕ) → (role_at a p ≡ Crashed) ⊎ (role_at a p ≡ Healthy)) → (o s : ℕ)
    → alerts_about a o s ≡ true → is_target a s ≡ true
alerted_is_target a roles o s alerts = grind arith

-- who has not crashed alerts about each target
pub target_is_alerted : (a : Assignment) (o s : ℕ) → is_target a s ≡ true → has_crashed a o ≡ false
    → alerts_about a o s ≡ true
target_is_alerted a o s target up =
    or_left _ _ (or_left _ _ (or_left _ _ (and_from _ _ target (or_left _ _ (ap not up)))))

-- ---- the alerted edges

-- on a ring of the cell an edge is listed exactly where its observer alerts
pub listed_on : (r : Layout) (a : Assignment) (k ring s : ℕ) → ring < k → s < r.nodes
    → set_of (alert_list r a k) ring s ≡ alerts_about a (observer_of r ring s) s
listed_on r a k ring s below process =
    grind (arith, listed, among_all)

-- ---- observers

hashed_total : (seed : List ℕ) (ring : ℕ) → IsTotalOrder (compare_hashed seed ring)
hashed_total seed ring = then_total (on_total (λ p. digest_of seed ring p) nat_list_cmp_total) nat_cmp_total

-- a place just after itself there is none
not_after_itself : (p n : ℕ) → 2 ≤ n → p < n → (p + 1) % n ≡ p → ⊥
not_after_itself p n two below is = grind arith

-- no process observes itself
pub never_itself : (v : Values) → IsPlan v → (ring s : ℕ) → ring < largest v.k → s < v.nodes
    → observer_of (rings_of v) ring s ≢ s
never_itself v plan ring s ring_below below itself =
    let r : Layout = rings_of v in
    let place : ℕ → ℕ = λ p. hashed_position v.seed v.nodes ring p in
    let on_ring : positions_on r ring ≡ map place (range_with_len 0 v.nodes) =
    get_or-map-range_with_len (λ i. map (λ p. hashed_position v.seed v.nodes i p) (range_with_len 0 v.nodes))
    0 (largest v.k) ring ring _ ring_below (zero-add ring) in
    let here : position_of r ring s ≡ place s = ap (λ ps. get_or ps s 0) on_ring
    ∙ get_or-map-range_with_len place 0 v.nodes s s 0 below (zero-add s) in
    let low : place s < v.nodes = omega (
      arith,
      rank-below (hashed_total v.seed ring) (range_with_len 0 v.nodes) s
          (Contains-range_with_len 0 v.nodes s (omega arith) (omega (arith, below))),
      length-range_with_len 0 v.nodes,
    ) in
    let test : ℕ → Bool = λ p. (p + 1) % v.nodes == position_of r ring s in
    let found : position_or_len test (positions_on r ring) ≡ s = itself in
    let inside : position_or_len test (positions_on r ring) < length (positions_on r ring) = omega (
      arith,
      found,
      below,
      ap (λ ps. length ps) on_ring,
      length-map-range_with_len place 0 v.nodes,
    ) in
    let passes = passes_at_first test (positions_on r ring) 0 inside in
    let same : (place s + 1) % v.nodes ≡ place s =
    eqb-true _ _ (ap (λ p. (p + 1) % v.nodes == place s) (sym here)
    ∙ ap (λ p. (position_of r ring s + 1) % v.nodes == p) (sym here)
    ∙ ap (λ i. test (get_or (positions_on r ring) i 0)) (sym found) ∙ passes) in
    not_after_itself (place s) v.nodes plan.some_nodes low same
