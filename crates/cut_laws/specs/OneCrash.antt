-- The law of one crash: what a trial is in which one process crashes and nothing else fails.
use Rattle.std.specs.Prelude.{◌≡◌, ℕ, ◌-◌, ◌+◌, ◌*◌, ◌<◌, ◌≤◌, nat_le, List, length, All, IfSome}
use Rattle.cut_plan.specs.Cells.{trial_count}
use Rattle.cut_plan.specs.Plan.{IsPlan}
use Rattle.cut_plan.specs.Values.{Values}
use Rattle.cut_fields.specs.declared.version.Version.TheVariants.{Two}
use Rattle.cut_plan.specs.Failing.{version_of}
use Rattle.cut_outcome.specs.declared.totals.Totals.{Totals}
use Rattle.cut_outcome.specs.Laws.{OnlyCrashes}
use Rattle.cut_outcome.specs.Outcome.{cell_at, one_if, outcome}
use Rattle.cut_outcome.specs.Sum.{sum_of}
use Rattle.cut_laws.specs.Trials.{proposed_at}

-- in each of some trials of n processes, all n - 1 receivers propose exactly the one that has crashed; they are a
-- quorum where n is 5 or more
pub record AreOneCrash (n trials : ℕ) (x : Totals) : Type 0 where
  pub receivers : x.receivers ≡ trials * (n - 1)
  pub conflicts : x.conflicts ≡ 0
  pub silent : x.silent ≡ 0
  pub extra : x.extra ≡ 0
  pub votes : x.votes ≡ trials * (n - 1)
  pub decided : x.decided ≡ trials * one_if (nat_le 5 n)
  pub right : x.right ≡ trials * one_if (nat_le 5 n)

-- a trial of a plan in which one process fails
pub record HasOneTarget (v : Values) (t : ℕ) : Type 0 where
  pub inside : t < trial_count v
  pub one : (cell_at v t).f ≡ 1

-- whatever K, H, L and copies are, with implicit alerts and without, and whether crashed observers speak or not
abbrev pub OneCrashIsFound : Type 0
OneCrashIsFound =
    (v : Values) (t : ℕ) → IsPlan v → OnlyCrashes v → HasOneTarget v t → AreOneCrash v.nodes 1 (outcome v t)

-- and so in the sums over any such trials
abbrev pub OneCrashIsFoundInSums : Type 0
OneCrashIsFoundInSums =
    (v : Values) (ts : List ℕ) → IsPlan v → OnlyCrashes v → All (HasOneTarget v) ts →
    AreOneCrash v.nodes (length ts) (sum_of v ts)

-- each receiver proposes after H deliveries at least, and at most one more than all copies of H - 1 alerts: after H
-- exactly, if each alert comes once
abbrev pub OneCrashIsFoundByH : Type 0
OneCrashIsFoundByH =
    (v : Values) (t j : ℕ) → IsPlan v → OnlyCrashes v → HasOneTarget v t →
    IfSome (proposed_at v t j)
    (λ p. ((cell_at v t).h ≤ p.at) × (p.at ≤ v.copies * ((cell_at v t).h - 1) + 1))

-- so the places of all receivers lie between these numbers for each, in a plan of version 2
pub record IsSettledByH (h copies : ℕ) (x : Totals) : Type 0 where
  pub low : x.receivers * h ≤ x.settled
  pub high : x.settled ≤ x.receivers * (copies * (h - 1) + 1)

abbrev pub OneCrashIsSettledByH : Type 0
OneCrashIsSettledByH =
    (v : Values) (t : ℕ) → IsPlan v → OnlyCrashes v → version_of v.failing ≡ Two → HasOneTarget v t →
    IsSettledByH (cell_at v t).h v.copies (outcome v t)

-- and so in the sums over any such trials of one H
abbrev pub OneCrashIsSettledByHInSums : Type 0
OneCrashIsSettledByHInSums =
    (v : Values) (h : ℕ) (ts : List ℕ) → IsPlan v → OnlyCrashes v → version_of v.failing ≡ Two →
    All (λ t. HasOneTarget v t × ((cell_at v t).h ≡ h)) ts → IsSettledByH h v.copies (sum_of v ts)
