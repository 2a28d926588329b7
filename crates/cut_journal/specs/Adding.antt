-- Slips that are added to a journal one after another, and how that ends.
use Rattle.std.specs.Prelude.{◌≡◌, ◌≤◌, ◌+◌, ◌++◌, ℕ, List, [], ◌∷◌, length, Option, Some, None, IsSome, Result, Ok, Err}
use Rattle.cut_faults.specs.Failures.{one_more}
use Rattle.cut_disks.specs.State.{DiskState}
use Rattle.cut_disks.specs.Log.{DiskLog, Goes}
use Rattle.cut_ledger.specs.declared.slip.Slip.{Slip}
use Rattle.cut_journal.specs.declared.store_fault.StoreFault.{StoreFault}
use Rattle.cut_journal.specs.declared.store_fault.StoreFault.TheVariants.{Broken, Disk}
use Rattle.cut_journal.specs.Journal.{AppendsEach, JournalValue, kept_slips}

-- ---- which were added

-- what this does to a disk of which it is known what is on it: the slips are appended one after another, and are kept
-- after those that were kept before
pub record AppendsAll {D : Type 0} (added : List Slip) (old new : JournalValue D) (before now : DiskState) : Type 0 where
  pub moments : AppendsEach old.plan (kept_slips old.plan old.count before) new.doubtful added before now
  pub kept : kept_slips new.plan new.count now ≡ kept_slips old.plan old.count before ++ added

-- the doubtful slip is the one at which the disk failed; if it did not fail, it is that of before
abbrev pub doubtful_after : Option Slip → Option Slip → Option Slip
doubtful_after None before = before
doubtful_after (Some slip) before = Some slip

-- how many calls of the disk failed: one more if it failed at a slip
abbrev pub failures_after : Option Slip → ℕ → ℕ
failures_after None n = n
failures_after (Some slip) n = one_more n

-- these slips were added to a journal, in this order, and no others, and then the disk failed at one more, if it failed.
-- Only a journal that is not broken takes one
pub record Adds {D : Type 0} (log : D → DiskLog) (added : List Slip) (failed : Option Slip) (old new : JournalValue D)
    : Type 0 where
  pub plan : new.plan ≡ old.plan
  pub count : new.count ≡ old.count + length added
  pub doubtful : new.doubtful ≡ doubtful_after failed old.doubtful
  pub taken : 1 ≤ length added → old.doubtful ≡ None
  pub whole : IsSome failed → old.doubtful ≡ None
  pub untouched : length added ≡ 0 → failed ≡ None → new ≡ old
  pub disk : Goes (failures_after failed) (AppendsAll added old new) (log old.disk) (log new.disk)

-- ---- how it ends

-- nothing was added, and the disk did not fail
abbrev pub AddsNothing : List Slip → Option Slip → Type 0
AddsNothing added failed = (added ≡ []) × (failed ≡ None)

-- the adding of slips to a journal with this doubtful one ends, by its answer, with these added: all of them; none, as
-- the journal was broken, and there was one to add; or those before the one at which the disk failed
abbrev pub StopsAt : {T : Type 0} → Result T StoreFault → List Slip → Option Slip → List Slip → Option Slip → Type 0
StopsAt (Ok done) slips doubtful added failed = (added ≡ slips) × (failed ≡ None)
StopsAt (Err Broken) slips doubtful added failed =
    (1 ≤ length slips) × IsSome doubtful × AddsNothing added failed
StopsAt (Err Disk) slips doubtful added failed =
    (slip : Slip) × (later : List Slip) × ((slips ≡ added ++ slip ∷ later) × (failed ≡ Some slip))
StopsAt (Err fault) slips doubtful added failed = ⊥

abbrev pub EndsAdding : {T D : Type 0} → (D → DiskLog) → Result T StoreFault → List Slip → JournalValue D → JournalValue D
    → Type 0
EndsAdding log result slips old new =
    (added : List Slip) × (failed : Option Slip)
    × (Adds log added failed old new × StopsAt result slips old.doubtful added failed)
