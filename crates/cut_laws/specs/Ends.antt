-- Laws of the end of a trial: what all of its alerts together say of what any receiver proposes, in whatever order
-- they come.
use Rattle.std.specs.Prelude.{◌≡◌, ℕ, ◌<◌, Contains, IfSome, IsTrue}
use Rattle.cut_plan.specs.Cells.{trial_count}
use Rattle.cut_plan.specs.Plan.{IsPlan}
use Rattle.cut_plan.specs.Values.{Values}
use Rattle.cut_rings.specs.Edges.{set_of}
use Rattle.cut_alerts.specs.Assignment.{is_target}
use Rattle.cut_detector.specs.Laws.{IsSettled}
use Rattle.cut_outcome.specs.Outcome.{outcome, rings_of}
use Rattle.cut_laws.specs.Trials.{IsAllConflicts, alerts_at, ends_stable, proposed_at, roles_at, rule_at}

-- a receiver proposes only processes that are stable in the end
abbrev pub OnlyWhoEndsStableIsProposed : Type 0
OnlyWhoEndsStableIsProposed =
    (v : Values) (t j : ℕ) →
    IfSome (proposed_at v t j) (λ p. (s : ℕ) → Contains p.members s → (s < v.nodes) × IsTrue (ends_stable v t s))

-- so if some target isn't, every receiver that proposes is a conflict
abbrev pub AMissedTargetMakesAllConflicts : Type 0
AMissedTargetMakesAllConflicts =
    (v : Values) (t s : ℕ) → IsTrue (is_target (roles_at v t) s) → ¬ IsTrue (ends_stable v t s) →
    IsAllConflicts (outcome v t)

-- where only targets are, no receiver proposes another process
abbrev pub StableTargetsAloneLeaveNoExtra : Type 0
StableTargetsAloneLeaveNoExtra =
    (v : Values) (t : ℕ) →
    ((s : ℕ) → s < v.nodes → IsTrue (ends_stable v t s) → IsTrue (is_target (roles_at v t) s)) →
    (outcome v t).extra ≡ 0

-- if no process is, every receiver is silent
abbrev pub NoneStableLeavesAllSilent : Type 0
NoneStableLeavesAllSilent =
    (v : Values) (t : ℕ) → ((s : ℕ) → s < v.nodes → ¬ IsTrue (ends_stable v t s)) →
    (outcome v t).silent ≡ (outcome v t).receivers

-- and if some process is stable in the end and none unstable, no receiver is silent
abbrev pub SettledEndsLeaveNoneSilent : Type 0
SettledEndsLeaveNoneSilent =
    (v : Values) (t : ℕ) → IsPlan v → t < trial_count v →
    IsSettled (rings_of v) (rule_at v t) (set_of (alerts_at v t)) → (outcome v t).silent ≡ 0
