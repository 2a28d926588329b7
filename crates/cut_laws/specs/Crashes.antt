-- Laws of trials in which processes crash and nothing else fails: crashed observers raise no alerts, unless they
-- speak, and how many of a target's observers are left says whether all receivers find it or none does.
use Rattle.std.specs.Prelude.{◌≡◌, ℕ, ◌+◌, ◌<◌, ◌≤◌, IsTrue}
use Rattle.cut_plan.specs.declared.dead.Dead.TheVariants.{Silent, Speak}
use Rattle.cut_plan.specs.Cells.{trial_count}
use Rattle.cut_plan.specs.Plan.{IsPlan}
use Rattle.cut_plan.specs.Values.{Values}
use Rattle.cut_rings.specs.Layout.{observer_of}
use Rattle.cut_alerts.specs.Assignment.{has_crashed, is_target}
use Rattle.cut_detector.specs.Counts.{ring_count}
use Rattle.cut_outcome.specs.Laws.{OnlyCrashes}
use Rattle.cut_outcome.specs.Outcome.{cell_at, outcome, rings_of}
use Rattle.cut_laws.specs.Reports.{least_reports, raised_about}
use Rattle.cut_laws.specs.Trials.{roles_at}

-- on how many rings of trial t the observer of process s has crashed
abbrev pub crashed_observers : Values → ℕ → ℕ → ℕ
crashed_observers v t s =
    ring_count (cell_at v t).k (λ ring subject. has_crashed (roles_at v t) (observer_of (rings_of v) ring subject)) s

-- where crashed observers are silent, alerts about a target are raised on all other rings
abbrev pub CrashedObserversRaiseNone : Type 0
CrashedObserversRaiseNone =
    (v : Values) (t s : ℕ) → OnlyCrashes v → v.dead ≡ Silent → IsTrue (is_target (roles_at v t) s) →
    raised_about v t s + crashed_observers v t s ≡ (cell_at v t).k

-- where they speak, on all rings
abbrev pub SpeakingObserversRaiseAll : Type 0
SpeakingObserversRaiseAll =
    (v : Values) (t s : ℕ) → OnlyCrashes v → v.dead ≡ Speak → IsTrue (is_target (roles_at v t) s) →
    raised_about v t s ≡ (cell_at v t).k

-- and none are raised about another process
abbrev pub NoneAreRaisedAboutOthers : Type 0
NoneAreRaisedAboutOthers =
    (v : Values) (t s : ℕ) → OnlyCrashes v → ¬ IsTrue (is_target (roles_at v t) s) → raised_about v t s ≡ 0

-- if some process has crashed, and on enough rings alerts are raised about each that has, no receiver is silent
abbrev pub EnoughAlertsLeaveNoneSilent : Type 0
EnoughAlertsLeaveNoneSilent =
    (v : Values) (t : ℕ) → IsPlan v → t < trial_count v → OnlyCrashes v → 1 ≤ (cell_at v t).f →
    ((s : ℕ) → IsTrue (is_target (roles_at v t) s) → least_reports v t ≤ raised_about v t s) →
    (outcome v t).silent ≡ 0
