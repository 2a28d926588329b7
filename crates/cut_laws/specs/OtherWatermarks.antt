-- Laws of two plans that differ in one watermark alone: they have the same trials, with the same draws, and so can be
-- compared trial by trial.
use Rattle.std.specs.Prelude.{◌≡◌, ℕ, ◌+◌, ◌*◌, ◌≤◌, false, List, [], ◌∷◌, All}
use Rattle.cut_plan.specs.Values.{Values}
use Rattle.cut_detector.specs.Laws.{ProposesBefore}
use Rattle.cut_outcome.specs.declared.totals.Totals.{Totals}
use Rattle.cut_outcome.specs.Laws.{AreMoreCautious}
use Rattle.cut_outcome.specs.Outcome.{deliveries_at, outcome}
use Rattle.cut_outcome.specs.Sum.{sum_of}
use Rattle.cut_laws.specs.Trials.{proposed_at}

-- the plan with this one H
abbrev pub with_h : Values → ℕ → Values
with_h v h = record v { h = h ∷ [] }

-- the plan with this one L
abbrev pub with_l : Values → ℕ → Values
with_l v l = record v { l = l ∷ [] }

-- a plan that has the one H x, at least each L; and y is a greater one, or the same, and at most each K
pub record MayRaiseH (v : Values) (x y : ℕ) : Type 0 where
  pub one : v.h ≡ x ∷ []
  pub higher : x ≤ y
  pub lows : All (λ l. l ≤ x) v.l
  pub rings : All (λ k. y ≤ k) v.k

-- a plan without implicit alerts that has the one L x, at most each H; and y is a lesser one, or the same
pub record MayLowerL (v : Values) (x y : ℕ) : Type 0 where
  pub explicit : v.implicit ≡ false
  pub one : v.l ≡ x ∷ []
  pub lower : y ≤ x
  pub highs : All (λ h. x ≤ h) v.h

-- after how many deliveries receivers propose, added up, where a silent one counts with all deliveries
abbrev pub waited : ℕ → Totals → ℕ
waited deliveries x = x.settled + x.silent * deliveries

-- at each trial, receivers by the second plan wait at least as long as by the first
pub record WaitsLonger (sooner later : Values) : Type 0 where
  -- no silence ends, no conflict is new, and who names a process that is not a target still does so, or is silent
  pub trials : (t : ℕ) → AreMoreCautious (outcome sooner t) (outcome later t)
  -- so in the sums over any trials: of a piece, of a cell, of all
  pub sums : (ts : List ℕ) → AreMoreCautious (sum_of sooner ts) (sum_of later ts)
  -- who proposes does so no sooner, and proposes no fewer processes
  pub receivers : (t j : ℕ) → ProposesBefore (proposed_at sooner t j) (proposed_at later t j)
  -- all deliveries are as many
  pub deliveries : (t : ℕ) → deliveries_at later t ≡ deliveries_at sooner t
  -- and receivers wait for no fewer
  pub waits : (t : ℕ) → waited (deliveries_at sooner t) (outcome sooner t)
      ≤ waited (deliveries_at later t) (outcome later t)

-- by the plan with a higher H
abbrev pub AHigherHWaitsLonger : Type 0
AHigherHWaitsLonger = (v : Values) (x y : ℕ) → MayRaiseH v x y → WaitsLonger v (with_h v y)

-- and, without implicit alerts, by the plan with a lower L
abbrev pub ALowerLWaitsLonger : Type 0
ALowerLWaitsLonger = (v : Values) (x y : ℕ) → MayLowerL v x y → WaitsLonger v (with_l v y)

-- what a second plan adds to a first, and a third to the second, the third adds to the first: as by a higher H and
-- then a lower L
abbrev pub LongerWaitsAddUp : Type 0
LongerWaitsAddUp = (u v w : Values) → WaitsLonger u v → WaitsLonger v w → WaitsLonger u w
