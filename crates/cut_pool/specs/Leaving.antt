-- With what a run leaves the disk of its study.
use Rattle.std.specs.Prelude.{◌≡◌, ◌++◌, ℕ, List, Option, Some, None, IsOk, IsErrOf, IsSome, is_some, Result, Err, Vec}
use Rattle.cut_plan.specs.Values.{Values}
use Rattle.cut_disks.specs.State.{DiskState, IsImage, settled}
use Rattle.cut_disks.specs.Log.{DiskLog, IsKnown, is_known, on}
use Rattle.cut_ledger.specs.declared.slip.Slip.{Slip}
use Rattle.cut_ledger.specs.Machine.{some_slip}
use Rattle.cut_journal.specs.Journal.{JournalValue, ReadsAs}
use Rattle.cut_book.specs.Book.{failed_since}
use Rattle.cut_book.specs.Kept.{AreOfStudy, AreAllOfStudy}
use Rattle.cut_pool.specs.declared.run_fault.RunFault.{RunFault}
use Rattle.cut_pool.specs.declared.run_fault.RunFault.TheVariants.{BadSlip, Checkpoint}
use Rattle.cut_pool.specs.declared.study_run.Done.{Done}

-- a disk holds the slips of a study and, after them in order, those that were added: its bytes say them, or these and the
-- doubtful one, and so does whatever a crash leaves of it then; without a doubtful one all of it is durable
pub record KeepsSlips (v : Values) (slips added : List Slip) (doubtful : Option Slip) (d : DiskState) : Type 0 where
  pub bytes : ReadsAs v (slips ++ added) doubtful d.bytes
  pub images : (image : List ℕ) → IsImage d.stable image → ReadsAs v (slips ++ added) doubtful image
  pub durable : doubtful ≡ None → d.stable ≡ settled d.bytes

-- how a run that ended so leaves the disk of a plan's study that began with these slips: some of its own were added, all
-- that it lacked if it is done; the slip of an append that failed is doubtful, and one call more of the disk has failed
-- then, as it has where the run answers Checkpoint; after a bad slip the disk is as it was
pub record LeavesRun (v : Values) (slips : List Slip) (ended : Result Done RunFault) (old new : DiskLog) : Type 0 where
  pub added : List Slip
  pub doubtful : Option Slip
  pub own : AreOfStudy v slips (added ++ some_slip doubtful)
  pub all : IsOk ended → AreAllOfStudy v slips added × (doubtful ≡ None)
  pub cause : IsErrOf ended Checkpoint → IsSome doubtful
  pub untouched : (number : ℕ) → ended ≡ Err (BadSlip number) → new ≡ old
  pub known : is_known new ≡ is_known old
  pub failures : new.failed ≡ failed_since (is_some doubtful) old.failed
  pub keeps : IsKnown old → KeepsSlips v slips added doubtful (on new)

-- the disk of the journal that a study was begun with, if there was one, comes back so
abbrev pub LeavesDisk : {D A : Type 0} → (D → DiskLog) → Values → Option (JournalValue D × Vec Slip A)
    → Result Done RunFault → Option D → Type 0
LeavesDisk log_of v None ended disk = disk ≡ None
LeavesDisk log_of v (Some kept) ended (Some disk) = LeavesRun v kept.1.items ended (log_of kept.0.disk) (log_of disk)
LeavesDisk log_of v (Some kept) ended None = ⊥
