-- What the sums over trials of one cell can be.
use Rattle.std.specs.Prelude.{◌≡◌, ℕ, ◌+◌, ◌-◌, ◌*◌, ◌≤◌}
use Rattle.cut_plan.specs.declared.cell.Cell.{Cell}
use Rattle.cut_fields.specs.declared.version.Version.{Version}
use Rattle.cut_fields.specs.declared.version.Version.TheVariants.{One, Two}
use Rattle.cut_plan.specs.Values.{Values}
use Rattle.cut_plan.specs.Failing.{version_of}
use Rattle.cut_outcome.specs.declared.totals.Totals.{Totals}

-- what the places of this many proposals, each after a number of deliveries at most, can add up to: a plan of
-- version 1 does not have it
abbrev pub IsSettledBy : Version → ℕ → ℕ → ℕ → Type 0
IsSettledBy One proposing deliveries settled = settled ≡ 0
IsSettledBy Two proposing deliveries settled =
    (proposing ≤ settled) × (settled ≤ proposing * deliveries)

-- the sums of this many trials of a plan's cell, as far as they do not say after how many deliveries receivers
-- propose
pub record AreCounted (v : Values) (c : Cell) (trials : ℕ) (x : Totals) : Type 0 where
  -- the receivers are those of all trials
  pub receivers : x.receivers ≡ trials * (v.nodes - c.f)
  -- none of them is silent and a conflict
  pub conflicts : x.conflicts + x.silent ≤ x.receivers
  -- nor silent and of a proposal with a process that is not a target
  pub extra : x.extra + x.silent ≤ x.receivers
  -- each has one vote at most
  pub votes : x.votes ≤ x.receivers
  -- a trial is decided once at most
  pub decided : x.decided ≤ trials
  -- and is right only if it is decided
  pub right : x.right ≤ x.decided

-- the sums of this many trials of a plan's cell
pub record ArePossible (v : Values) (c : Cell) (trials : ℕ) (x : Totals) : Type 0 where
  pub counted : AreCounted v c trials x
  -- who proposes does so after one delivery at least, and after all copies of all edges at most
  pub settled : IsSettledBy (version_of v.failing) (x.receivers - x.silent) (v.nodes * c.k * v.copies) x.settled
