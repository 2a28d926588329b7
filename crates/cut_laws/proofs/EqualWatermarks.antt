-- Trials in which L = H: all receivers are silent or none is, and one process alone is no right proposal where two
-- fail.
use Rattle.std.proofs.Common.{◌≡◌, ℕ, ◌≤◌, Bool, true, false, List, [], ◌∷◌, Option, Some, None, length, refl, sym}
use Rattle.std.proofs.Common.{ap, arith, not, get_or, map, subst, zero, suc}
use Rattle.cut_laws.proofs.Words.{All, Assignment, Cell, Contains, EdgeSet, IfSome, IsAllConflicts, IsPlan, Layout}
use Rattle.cut_laws.proofs.Words.{NoneIsUnstable, Proposal, ReceiversAreTheRest, Totals, Values, alerts_at}
use Rattle.cut_laws.proofs.Words.{all_deliveries, cell_at, count_by, early, if◌then◌else◌, is_some_stable, is_stable}
use Rattle.cut_laws.proofs.Words.{is_target, lacks_target, outcome, processes_of, proposal_of, proposed_at}
use Rattle.cut_laws.proofs.Words.{receivers_of, rings_of, roles_at, rule_at, rule_of, set_of, source_of, sum_by}
use Rattle.cut_laws.proofs.Words.{sum_of, totals_of, ◌==◌}
use Rattle.cut_laws.specs.Ends.{NoneStableLeavesAllSilent, SettledEndsLeaveNoneSilent}
use Rattle.cut_detector.specs.Laws.{ImplicitAlertsChangeNothing}
use Rattle.cut_outcome.specs.Sum.{each_number}
use Rattle.cut_laws.specs.EqualWatermarks.{HasNoGap, ProposesOneProcess, with_implicit}
use Rattle.std.proofs.lemmas.Bool.{and_parts, both_ways, eq-eqb, not-true}
use Rattle.cut_lists.proofs.Ranges.{list_any_passing, passing}
use Rattle.cut_laws.proofs.Counting.{another}
use Rattle.cut_laws.proofs.Numbers.{sums_all_conflicts, targets_many}
use Rattle.cut_laws.proofs.Plans.{IsCell}
use Rattle.cut_laws.proofs.Verdicts.{all_conflicts, lacks_one}
use Rattle.cut_outcome.proofs.Upgrades.{same_sums}

-- ---- silence

module _ (none_unstable : NoneIsUnstable) (settled_end : SettledEndsLeaveNoneSilent)
    (none_stable : NoneStableLeavesAllSilent) (v : Values) (t : ℕ) (plan : IsPlan v) (no_gap : HasNoGap v t) where
  abbrev some_stable : Bool
  some_stable = is_some_stable (rings_of v) (rule_at v t) (set_of (alerts_at v t))

  silent_by : (b : Bool) → some_stable ≡ b
      → (outcome v t).silent ≡ (if b then 0 else (outcome v t).receivers)
  unfolding is_some_stable
  silent_by true some =
      let at = passing (λ s. is_stable (rings_of v) (rule_at v t) (set_of (alerts_at v t)) s) 0 v.nodes some in
      settled_end v t plan no_gap.inside (record {
        some_stable = (at.0, omega (arith, at.1.below), at.1.passes);
        none_unstable = λ s _ unstable.
            none_unstable (rings_of v) (rule_at v t) (set_of (alerts_at v t)) s no_gap.equal unstable;
      })
  silent_by false none =
      none_stable v t (λ s process stable. both_ways _ none
      (list_any_passing (λ q. is_stable (rings_of v) (rule_at v t) (set_of (alerts_at v t)) q) 0 v.nodes s
      (omega arith) (omega (arith, process)) stable))

  pub all_or_none_silent : (outcome v t).silent ≡ (if some_stable then 0 else (outcome v t).receivers)
  all_or_none_silent = silent_by some_stable refl

-- ---- conflicts

-- where two are targets, a list of one process lacks one of them
one_lacks : (a : Assignment) (xs : List ℕ) → 2 ≤ count_by (λ p. is_target a p) (processes_of a) → length xs ≡ 1
    → lacks_target a xs ≡ true
one_lacks a [] two one = absurd (omega (arith, one))
one_lacks a (m ∷ []) two one =
    let at = another (λ p. is_target a p) (length a.roles) m two in
    let parts = and_parts (is_target a at.0) (not (at.0 == m)) at.1.passes in
    lacks_one a (m ∷ []) at.0 parts.0 (λ found. both_ways _ (not-true _ parts.1)
    (eq-eqb at.0 m (only_one at.0 found)))
  where
    only_one : (s : ℕ) → Contains (m ∷ []) s → s ≡ m
    only_one s (zero, below, is) = sym is
    only_one s (suc k, below, is) = absurd (omega (arith, below))
one_lacks a (m ∷ n ∷ xs) two one = absurd (omega (arith, one))

pub two_targets : ProposesOneProcess → ReceiversAreTheRest → (v : Values) (t : ℕ) → IsCell v (cell_at v t)
    → HasNoGap v t → 2 ≤ (cell_at v t).f → IsAllConflicts (outcome v t)
two_targets one rest v t cell no_gap two =
    let a : Assignment = roles_at v t in
    let many = targets_many rest v t (omega (arith, cell.some_left)) in
    all_conflicts rest v t (omega (arith, cell.some_left)) (λ j.
    elim (proposed_at v t j) as (λ o. IfSome o (λ p. length p.members ≡ 1)
    → IfSome o (λ p. lacks_target a p.members ≡ true)) [
      | None ↦ λ _. tt
      | Some p ↦ λ alone. one_lacks a p.members (omega (arith, many, two)) alone
    ] (one v (cell_at v t) (rings_of v) (source_of v.seed t) (alerts_at v t) j cell.low no_gap.equal))

pub sums_two_targets : (v : Values) → ((t : ℕ) → HasNoGap v t → 2 ≤ (cell_at v t).f → IsAllConflicts (outcome v t))
    → (ts : List ℕ) → All (λ t. HasNoGap v t × (2 ≤ (cell_at v t).f)) ts → IsAllConflicts (sum_of v ts)
sums_two_targets v each ts all =
    sums_all_conflicts v ts (λ i d below. each (get_or ts i d) (all i d below).0 (all i d below).1)

-- ---- implicit alerts

-- a rule with implicit alerts, or without, is as good as the other
either_rule : ImplicitAlertsChangeNothing → (r : Layout) (k h : ℕ) (E : ℕ → EdgeSet) (count : ℕ) (b c : Bool)
    → proposal_of r (rule_of k h h b) E count ≡ proposal_of r (rule_of k h h c) E count
either_rule same r k h E count true true = refl
either_rule same r k h E count true false = same r k h E count
either_rule same r k h E count false true = sym (same r k h E count)
either_rule same r k h E count false false = refl

pub implicit_changes_no_trial : ImplicitAlertsChangeNothing → (v : Values) (b : Bool) (t : ℕ)
    → (cell_at v t).l ≡ (cell_at v t).h → outcome (with_implicit v b) t ≡ outcome v t
unfolding outcome
implicit_changes_no_trial same v b t equal =
    ap (λ (proposed : ℕ → Option Proposal).
    totals_of v (cell_at v t) (roles_at v t) (map proposed (receivers_of (roles_at v t)))) (λ i j. each j i)
  where
    each : (j : ℕ) → proposed_at (with_implicit v b) t j ≡ proposed_at v t j
    each j =
        let c : Cell = cell_at v t in
        let heard : ℕ → EdgeSet = λ n. early (source_of v.seed t) j c.k (alerts_at v t) v.copies n in
        let count : ℕ = length (all_deliveries (alerts_at v t) v.copies) in
        subst (λ l. proposal_of (rings_of v) (rule_of c.k c.h l b) heard count
        ≡ proposal_of (rings_of v) (rule_of c.k c.h l v.implicit) heard count) (sym equal)
        (either_rule same (rings_of v) c.k c.h heard count b v.implicit)

pub implicit_changes_no_sums : ImplicitAlertsChangeNothing → (v : Values) (b : Bool) (ts : List ℕ)
    → All (λ t. (cell_at v t).l ≡ (cell_at v t).h) ts → sum_of (with_implicit v b) ts ≡ sum_of v ts
implicit_changes_no_sums same v b ts equal =
    ap (λ (h : (Totals → ℕ) → ℕ). each_number h) (λ i n. agree n i)
  where
    agree : (n : Totals → ℕ) → sum_by (λ t. n (outcome (with_implicit v b) t)) ts ≡ sum_by (λ t. n (outcome v t)) ts
    agree n = same_sums _ _ ts (λ i d below.
        ap n (implicit_changes_no_trial same v b (get_or ts i d) (equal i d below)))
