-- What a migration leaves: the slips of a study of version 1, worked out anew for the plan's upgrade.
use Rattle.std.specs.Prelude.{◌≡◌, ◌≢◌, ◌⊎◌, ◌≤◌, ◌<◌, ◌+◌, ◌-◌, ℕ, List, length, map, take}
use Rattle.std.specs.Prelude.{slice_index_or, Option, None, Some, IsSome, Result, Ok, Err}
use Rattle.cut_fields.specs.declared.version.Version.TheVariants.{One, Two}
use Rattle.cut_plan.specs.Targets.{upgraded}
use Rattle.cut_plan.specs.Values.{Values}
use Rattle.cut_plan.specs.Failing.{version_of}
use Rattle.cut_outcome.specs.Sum.{sum_of, trials_in}
use Rattle.cut_ledger.specs.declared.slip.Slip.{Slip}
use Rattle.cut_ledger.specs.Slips.{AreGood, IsFirstBad}
use Rattle.cut_ledger.specs.World.{IsTrueSlip}
use Rattle.cut_disks.specs.Log.{DiskLog}
use Rattle.cut_journal.specs.declared.store_fault.StoreFault.{StoreFault}
use Rattle.cut_journal.specs.declared.store_fault.StoreFault.TheVariants.{Memory, NotVersion1, BadSlip, OtherPlan}
use Rattle.cut_journal.specs.declared.store_fault.StoreFault.TheVariants.{Disagrees, WorkMemory, Broken, Disk}
use Rattle.cut_journal.specs.Adding.{Adds, AddsNothing}
use Rattle.cut_journal.specs.Journal.{JournalValue}

-- a slip of the plan's upgrade: the same piece, with the sums that its trials have there
abbrev pub moved : Values → Slip → Slip
moved v s = record { piece = s.piece; totals = sum_of (upgraded v) (trials_in s.piece) }

-- the first n slips, moved
abbrev pub first_moved : Values → List Slip → ℕ → List Slip
first_moved v ss n = map (moved v) (take n ss)

-- the first n slips are true
abbrev pub AreTrueUpTo : Values → List Slip → ℕ → Type 0
AreTrueUpTo v ss n = (i : ℕ) (d : Slip) → i < n → IsTrueSlip v (slice_index_or ss i d)

-- slip number n, from 1, is the first that is not true
pub record IsFirstUntrue (v : Values) (ss : List Slip) (n : ℕ) : Type 0 where
  pub numbered : 1 ≤ n
  pub within : n ≤ length ss
  pub earlier : AreTrueUpTo v ss (n - 1)
  pub untrue : (d : Slip) → IsTrueSlip v (slice_index_or ss (n - 1) d) → ⊥

-- these slips of a plan can be moved to a journal: a ledger can begin with them, and the journal is the upgrade's
pub record CanMove {D : Type 0} (v : Values) (ss : List Slip) (log : JournalValue D) : Type 0 where
  pub version : version_of v.failing ≡ One
  pub good : AreGood v ss
  pub plan : log.plan ≡ upgraded v

-- the first n slips are true, and what was added is these, moved
pub record HasMoved (v : Values) (ss : List Slip) (n : ℕ) (added : List Slip) : Type 0 where
  pub within : n ≤ length ss
  pub true : AreTrueUpTo v ss n
  pub added_are : added ≡ first_moved v ss n

-- the first n slips were moved, and the disk failed while the next one was, which is true too
pub record FailsMoving (v : Values) (ss : List Slip) (n : ℕ) (added : List Slip) (failed : Option Slip) : Type 0 where
  pub within : n < length ss
  pub true : AreTrueUpTo v ss (n + 1)
  pub added_are : added ≡ first_moved v ss n
  pub failed_at : (d : Slip) → failed ≡ Some (moved v (slice_index_or ss n d))

-- how a migration ends, by its answer, if these slips were added to this journal, and the disk failed at this one: how many
-- it moved, which are all; or why it stopped, and what it moved before. A refusal of memory may come at any step once the
-- version is known
abbrev pub StopsMoving : {D : Type 0} → Result ℕ StoreFault → Values → List Slip → JournalValue D → List Slip → Option Slip
    → Type 0
StopsMoving (Ok n) v ss old added failed =
    (n ≡ length ss) × CanMove v ss old × HasMoved v ss n added × (failed ≡ None)
StopsMoving (Err NotVersion1) v ss old added failed = (version_of v.failing ≡ Two) × AddsNothing added failed
StopsMoving (Err (BadSlip n)) v ss old added failed =
    (version_of v.failing ≡ One) × IsFirstBad v ss n × AddsNothing added failed
StopsMoving (Err OtherPlan) v ss old added failed =
    (version_of v.failing ≡ One) × AreGood v ss × (old.plan ≢ upgraded v) × AddsNothing added failed
StopsMoving (Err (Disagrees n)) v ss old added failed =
    CanMove v ss old × IsFirstUntrue v ss n × HasMoved v ss (n - 1) added × (failed ≡ None)
StopsMoving (Err Broken) v ss old added failed =
    CanMove v ss old × (1 ≤ length ss) × AreTrueUpTo v ss 1 × IsSome old.doubtful × AddsNothing added failed
StopsMoving (Err Disk) v ss old added failed = CanMove v ss old × ((n : ℕ) × FailsMoving v ss n added failed)
StopsMoving (Err Memory) v ss old added failed =
    (version_of v.failing ≡ One)
    × (AddsNothing added failed ⊎ (CanMove v ss old × ((n : ℕ) × (HasMoved v ss n added × (failed ≡ None)))))
StopsMoving (Err WorkMemory) v ss old added failed = ⊥

-- and what is on its disk then: one append of each slip that was added
abbrev pub EndsMigration : {D : Type 0} → (D → DiskLog) → Result ℕ StoreFault → Values → List Slip → JournalValue D
    → JournalValue D → Type 0
EndsMigration log result v ss old new =
    (added : List Slip) × (failed : Option Slip)
    × (Adds log added failed old new × StopsMoving result v ss old added failed)
