-- Crashes alone: on which rings a target is reported, and that with enough of them all targets are stable in the end.
use Rattle.std.proofs.Common.{◌≡◌, ◌⊎◌, ℕ, ◌+◌, ◌<◌, ◌≤◌, Bool, true, false, not, length, inl, inr, refl, sym, ap}
use Rattle.std.proofs.Common.{◌∙◌, arith}
use Rattle.cut_laws.proofs.Words.{Assignment, EdgeSet, IsPlan, IsTrue, Layout, OnlyCrashes, ReceiversAreTheRest, Rule}
use Rattle.cut_laws.proofs.Words.{Values, alerts_about, alerts_at, cell_at, ends_stable, has_crashed, is_stable}
use Rattle.cut_laws.proofs.Words.{is_target, is_unstable, observer_of, outcome, processes_of, range_with_len}
use Rattle.cut_laws.proofs.Words.{reports_of, rings_of, role_at, roles_at, rule_at, set_of, source_of, trial_count}
use Rattle.cut_laws.proofs.Words.{◌&&◌}
use Rattle.cut_alerts.specs.declared.role.Role.TheVariants.{Healthy, Crashed}
use Rattle.cut_detector.specs.Counts.{full_count, is_gained}
unfoldable use Rattle.cut_detector.specs.Counts.{is_full, is_reported}
use Rattle.cut_detector.specs.Laws.{NoneIsReportedUnheard, StableAreTargets, UnstableAreReportedAndNotStable}
use Rattle.cut_plan.specs.declared.dead.Dead.TheVariants.{Silent, Speak}
use Rattle.cut_laws.specs.Crashes.{crashed_observers}
use Rattle.cut_laws.specs.Ends.{SettledEndsLeaveNoneSilent}
use Rattle.cut_laws.specs.Reports.{least_reports, raised_about}
use Rattle.std.proofs.lemmas.Bool.{and_from, and_parts, both_ways, cases_Bool, false_from_ne_true, le-leb, lt-ltb}
use Rattle.std.proofs.lemmas.Bool.{or_left, or_right}
use Rattle.std.proofs.lemmas.List.FromFn.{length-range_with_len}
use Rattle.cut_lists.proofs.Counts.{list_any-count_by}
use Rattle.cut_lists.proofs.Parts.{count_rest}
use Rattle.cut_lists.proofs.Ranges.{All-range_with_len, count_by_agree, passing}
use Rattle.cut_lists.proofs.Ranks.{count_by_all}
use Rattle.cut_laws.proofs.Counting.{none_counted}
use Rattle.cut_laws.proofs.Numbers.{targets_many}
use Rattle.cut_laws.proofs.Plans.{IsCell}
use Rattle.cut_laws.proofs.Roles.{alerted_is_target, crashed_or_healthy, listed_on}
use Rattle.cut_laws.proofs.Verdicts.{roles_length, target_below}
use Rattle.cut_outcome.proofs.Heard.{listed_is_raised}

-- ---- who alerts about a target

module _ (a : Assignment) (roles : (p : ℕ) → (role_at a p ≡ Crashed) ⊎ (role_at a p ≡ Healthy)) where
  target_has_crashed : (s : ℕ) → is_target a s ≡ true → role_at a s ≡ Crashed
  target_has_crashed s target = elim (roles s) [
    | inl crashed ↦ crashed
    | inr well ↦ absurd (let never = rw well at target in cc)
  ]

  raise_where_silent : a.dead ≡ Silent → (o s : ℕ) → is_target a s ≡ true
      → alerts_about a o s ≡ not (has_crashed a o)
  raise_where_silent silent o s target = elim (roles o) [
    | inl crashed ↦ rw (target_has_crashed s target, crashed, silent) refl
    | inr well ↦ rw (target_has_crashed s target, well) refl
  ]

  raise_where_speaking : a.dead ≡ Speak → (o s : ℕ) → is_target a s ≡ true → alerts_about a o s ≡ true
  raise_where_speaking speak o s target = elim (roles o) [
    | inl crashed ↦ rw (target_has_crashed s target, crashed, speak) refl
    | inr well ↦ rw (target_has_crashed s target, well) refl
  ]

  -- an observer that raises no alert about a target is one itself
  quiet_is_target : (o s : ℕ) → is_target a s ≡ true → alerts_about a o s ≡ false → is_target a o ≡ true
  quiet_is_target o s target quiet = elim (roles o) [
    | inl crashed ↦ rw crashed refl
    | inr well ↦ absurd (let never = rw (target_has_crashed s target, well) at quiet in cc)
  ]

-- ---- how many alerts are raised

module _ (v : Values) (t : ℕ) (only : OnlyCrashes v) where
  abbrev pub a : Assignment
  a = roles_at v t

  abbrev pub r : Layout
  r = rings_of v

  abbrev pub k : ℕ
  k = (cell_at v t).k

  abbrev pub all_alerts : EdgeSet
  all_alerts = set_of (alerts_at v t)

  pub roles : (p : ℕ) → (role_at a p ≡ Crashed) ⊎ (role_at a p ≡ Healthy)
  roles = crashed_or_healthy v (cell_at v t).f (source_of v.seed t) r (only.crash (cell_at v t).f)
      only.no_liars only.no_links

  target_process : (s : ℕ) → is_target a s ≡ true → s < v.nodes
  target_process s target = omega (arith, target_below a s target, roles_length v t)

  pub raised_where_silent : (s : ℕ) → v.dead ≡ Silent → is_target a s ≡ true
      → raised_about v t s + crashed_observers v t s ≡ k
  raised_where_silent s silent target =
      let crashed : ℕ → Bool = λ ring. has_crashed a (observer_of r ring s) in
      let same = count_by_agree (λ ring. all_alerts ring s) (λ ring. not (crashed ring)) 0 k (record {
        same = λ ring _ below. listed_on r a k ring s (omega (arith, below)) (target_process s target)
            ∙ raise_where_silent a roles silent (observer_of r ring s) s target;
      }) in
      omega (arith, same, count_rest crashed (range_with_len 0 k), length-range_with_len 0 k)

  pub raised_where_speaking : (s : ℕ) → v.dead ≡ Speak → is_target a s ≡ true → raised_about v t s ≡ k
  raised_where_speaking s speak target =
      count_by_all (λ ring. all_alerts ring s) (range_with_len 0 k)
      (All-range_with_len (λ ring. all_alerts ring s ≡ true) 0 k (λ ring _ below.
      listed_on r a k ring s (omega (arith, below)) (target_process s target)
      ∙ raise_where_speaking a roles speak (observer_of r ring s) s target))
      ∙ length-range_with_len 0 k

  -- no alert is about another process
  none_about : (ring s : ℕ) → (IsTrue (is_target a s) → ⊥) → all_alerts ring s ≡ false
  none_about ring s other = false_from_ne_true _ (λ is. other (alerted_is_target a roles (observer_of r ring s) s
      (listed_is_raised r a k ring s is)))

  pub none_raised : (s : ℕ) → (IsTrue (is_target a s) → ⊥) → raised_about v t s ≡ 0
  none_raised s other = none_counted (λ ring. all_alerts ring s) (range_with_len 0 k) (λ ring. none_about ring s other)

-- ---- with enough alerts

pub record Known : Type 0 where
  pub rest : ReceiversAreTheRest
  pub settled : SettledEndsLeaveNoneSilent
  pub stable : StableAreTargets
  pub modes : UnstableAreReportedAndNotStable
  pub unreported : NoneIsReportedUnheard

module _ (known : Known) (v : Values) (t : ℕ) (plan : IsPlan v) (inside : t < trial_count v) (only : OnlyCrashes v)
    (cell : IsCell v (cell_at v t)) (some : 1 ≤ (cell_at v t).f)
    (enough : (s : ℕ) → IsTrue (is_target (roles_at v t) s) → least_reports v t ≤ raised_about v t s) where
  abbrev rule : Rule
  rule = rule_at v t

  abbrev E : EdgeSet
  E = set_of (alerts_at v t)

  abbrev targeted : ℕ → Bool
  targeted s = is_target (roles_at v t) s

  -- without implicit alerts H rings report each target
  stable_explicit : v.implicit ≡ false → (s : ℕ) → targeted s ≡ true → ends_stable v t s ≡ true
  stable_explicit explicit s target =
      known.stable (rings_of v) rule E targeted cell.low cell.gap (record {
        alone = λ ring q _ _ is. alerted_is_target (roles_at v t) (roles v t only) (observer_of (rings_of v) ring q) q
            (listed_is_raised (rings_of v) (roles_at v t) (cell_at v t).k ring q is);
        each = λ q _ is. rw explicit at (enough q is);
      }) s (target_process v t only s target) ∙ target

  -- with them each target is reported on L rings, and gains those whose observers are silent
  reported : v.implicit ≡ true → (s : ℕ) → targeted s ≡ true → is_reported rule E s ≡ true
  unfolding is_reported
  reported implicit s target = le-leb (cell_at v t).l (reports_of rule E s) (rw implicit at (enough s target))

  every_ring : v.implicit ≡ true → (s ring : ℕ) → targeted s ≡ true → ring < (cell_at v t).k
      → is_full (rings_of v) rule E ring s ≡ true
  unfolding is_full
  every_ring implicit s ring target below = elim (cases_Bool (E ring s)) [
    | inl is ↦ or_left (E ring s) _ is
    | inr quiet ↦ (
        let o : ℕ = observer_of (rings_of v) ring s in
        let same = listed_on (rings_of v) (roles_at v t) (cell_at v t).k ring s below
        (target_process v t only s target) in
        let crashed = quiet_is_target (roles_at v t) (roles v t only) o s target (sym same ∙ quiet) in
        or_right (E ring s) (is_gained (rings_of v) rule E ring s)
        (and_from (v.implicit && is_reported rule E s) (is_reported rule E o)
        (and_from v.implicit (is_reported rule E s) implicit (reported implicit s target))
        (reported implicit o crashed)))
  ]

  stable_implicit : v.implicit ≡ true → (s : ℕ) → targeted s ≡ true → ends_stable v t s ≡ true
  unfolding is_stable
  stable_implicit implicit s target =
      let all = All-range_with_len (λ ring. is_full (rings_of v) rule E ring s ≡ true) 0 (cell_at v t).k
      (λ ring _ below. every_ring implicit s ring target (omega (arith, below))) in
      let full = count_by_all (λ ring. is_full (rings_of v) rule E ring s) (range_with_len 0 (cell_at v t).k) all in
      le-leb (cell_at v t).h (full_count (rings_of v) rule E s)
      (omega (arith, full, length-range_with_len 0 (cell_at v t).k, cell.rings))

  targets_stable : (s : ℕ) → targeted s ≡ true → ends_stable v t s ≡ true
  targets_stable s target = elim (cases_Bool v.implicit) [
    | inl implicit ↦ stable_implicit implicit s target
    | inr explicit ↦ stable_explicit explicit s target
  ]

  none_unstable : (s : ℕ) → IsTrue (is_unstable (rings_of v) rule E s) → ⊥
  none_unstable s unstable =
      let parts = and_parts (is_reported rule E s) (not (is_stable (rings_of v) rule E s))
      (sym (known.modes (rings_of v) rule E s) ∙ unstable) in
      elim (cases_Bool (targeted s)) [
        | inl target ↦ both_ways _ (ap not (targets_stable s target)) parts.1
        | inr other ↦ known.unreported rule E s cell.low
            (λ ring _ is. both_ways _ (none_about v t only ring s (λ target. both_ways _ other target)) is) parts.0
      ]

  some_target : (s : ℕ) × (s < v.nodes) × (targeted s ≡ true)
  some_target =
      let many = targets_many known.rest v t (omega (arith, cell.some_left)) in
      let at = passing targeted 0 (length (roles_at v t).roles)
      (list_any-count_by targeted (processes_of (roles_at v t)) ∙ lt-ltb 0 _ (omega (arith, many, some))) in
      (at.0, omega (arith, at.1.below, roles_length v t), at.1.passes)

  pub none_silent : (outcome v t).silent ≡ 0
  none_silent = known.settled v t plan inside (record {
    some_stable = (some_target.0, some_target.1, targets_stable some_target.0 some_target.2);
    none_unstable = λ s _ unstable. none_unstable s unstable;
  })
