-- Laws of cells with L = H: each delivery makes one process stable at most, and a receiver proposes at the first that
-- does.
use Rattle.std.specs.Prelude.{◌≡◌, ℕ, ◌<◌, ◌≤◌, Bool, List, length, All, IfSome, if◌then◌else◌}
use Rattle.cut_plan.specs.declared.cell.Cell.{Cell}
use Rattle.cut_plan.specs.Cells.{trial_count}
use Rattle.cut_plan.specs.Plan.{IsPlan}
use Rattle.cut_plan.specs.Values.{Values}
use Rattle.cut_rings.specs.declared.edge.Edge.{Edge}
use Rattle.cut_rings.specs.Edges.{set_of}
use Rattle.cut_rings.specs.Layout.{Layout}
use Rattle.cut_draws.specs.Source.{Source}
use Rattle.cut_detector.specs.Counts.{is_some_stable}
use Rattle.cut_outcome.specs.Outcome.{cell_at, outcome, receiver_proposal, rings_of}
use Rattle.cut_outcome.specs.Sum.{sum_of}
use Rattle.cut_laws.specs.Trials.{IsAllConflicts, alerts_at, rule_at}

-- every proposal has exactly one member, whatever edges are alerted
abbrev pub ProposesOneProcess : Type 0
ProposesOneProcess =
    (v : Values) (c : Cell) (r : Layout) (d : Source) (edges : List Edge) (j : ℕ) → 1 ≤ c.l → c.l ≡ c.h →
    IfSome (receiver_proposal v c r d edges j) (λ p. length p.members ≡ 1)

-- a trial of a plan in which L = H
pub record HasNoGap (v : Values) (t : ℕ) : Type 0 where
  pub inside : t < trial_count v
  pub equal : (cell_at v t).l ≡ (cell_at v t).h

-- all receivers are silent or none is: none if some process is stable in the end
abbrev pub AllAreSilentOrNone : Type 0
AllAreSilentOrNone =
    (v : Values) (t : ℕ) → IsPlan v → HasNoGap v t →
    (outcome v t).silent
    ≡ (if is_some_stable (rings_of v) (rule_at v t) (set_of (alerts_at v t)) then 0 else (outcome v t).receivers)

-- the plan with implicit alerts, or without
abbrev pub with_implicit : Values → Bool → Values
with_implicit v implicit = record v { implicit = implicit }

-- they change no trial
abbrev pub ImplicitAlertsChangeNoTrial : Type 0
ImplicitAlertsChangeNoTrial =
    (v : Values) (implicit : Bool) (t : ℕ) → (cell_at v t).l ≡ (cell_at v t).h →
    outcome (with_implicit v implicit) t ≡ outcome v t

-- and no sums over such trials
abbrev pub ImplicitAlertsChangeNoSums : Type 0
ImplicitAlertsChangeNoSums =
    (v : Values) (implicit : Bool) (ts : List ℕ) → All (λ t. (cell_at v t).l ≡ (cell_at v t).h) ts →
    sum_of (with_implicit v implicit) ts ≡ sum_of v ts

-- with two targets or more, every receiver that proposes is a conflict
abbrev pub TwoTargetsMakeAllConflicts : Type 0
TwoTargetsMakeAllConflicts =
    (v : Values) (t : ℕ) → IsPlan v → HasNoGap v t → 2 ≤ (cell_at v t).f → IsAllConflicts (outcome v t)

-- and so in the sums over any such trials
abbrev pub TwoTargetsMakeSumsAllConflicts : Type 0
TwoTargetsMakeSumsAllConflicts =
    (v : Values) (ts : List ℕ) → IsPlan v → All (λ t. HasNoGap v t × (2 ≤ (cell_at v t).f)) ts →
    IsAllConflicts (sum_of v ts)
