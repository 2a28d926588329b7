-- What is left on the disk of a study that is made anew, into which slips are written one after another.
use Rattle.std.specs.Prelude.{◌≡◌, ◌⊎◌, ◌++◌, ℕ, true, List, None, Result, Ok, Err}
use Rattle.cut_faults.specs.Failures.{one_more}
use Rattle.cut_plan.specs.Values.{Values}
use Rattle.cut_disks.specs.State.{DiskState, IsImage, Throughout, synced}
use Rattle.cut_ledger.specs.declared.slip.Slip.{Slip}
use Rattle.cut_journal.specs.declared.fault.JournalFault.TheVariants.{Disk, NoStudy}
use Rattle.cut_journal.specs.Journal.{JournalValue}
use Rattle.cut_journal.specs.Opening.{IsNotClaimed, is_unclaimed}
use Rattle.cut_journal.specs.Reading.{reading}
use Rattle.cut_journal.specs.declared.store_fault.StoreFault.TheVariants as store
use Rattle.cut_commands.specs.declared.fault.CliFault.{CliFault}
use Rattle.cut_commands.specs.declared.fault.CliFault.TheVariants.{Memory, Journal, Store}

-- bytes say no study, or some first ones of these slips
abbrev pub SaysFirstOf : Values → List Slip → List ℕ → Type 0
SaysFirstOf v slips bytes = (reading v bytes ≡ Err NoStudy)
    ⊎ ((first : List Slip) × ((rest : List Slip) × ((slips ≡ first ++ rest) × (reading v bytes ≡ Ok first))))

-- bytes say all of these slips, and so does whatever a crash leaves of them
pub record SaysAllOf (v : Values) (slips : List Slip) (d : DiskState) : Type 0 where
  pub bytes : reading v d.bytes ≡ Ok slips
  pub durable : (image : List ℕ) → IsImage d.stable image → reading v image ≡ Ok slips

-- ---- the journal that was made

-- a journal of a plan that has no slips yet
pub record IsNewJournal {D : Type 0} (v : Values) (journal : JournalValue D) : Type 0 where
  pub plan : journal.plan ≡ v
  pub empty : journal.count ≡ 0
  pub whole : journal.doubtful ≡ None

-- some first ones of these slips were written to a journal that had none
pub record HasPart (v : Values) (slips : List Slip) (old new : DiskState) : Type 0 where
  pub bytes : SaysFirstOf v slips new.bytes
  pub moments : Throughout old new (SaysFirstOf v slips)

-- and all of them
pub record HasAll (v : Values) (slips : List Slip) (old new : DiskState) : Type 0 where
  pub part : HasPart v slips old new
  pub all : SaysAllOf v slips new

-- ---- the disk

-- the file was unclaimed, and a study was begun: the bytes, and whatever a crash leaves of them at each moment since the
-- first sync, say none, or some first ones of these slips
pub record IsBegun (v : Values) (slips : List Slip) (old new : DiskState) : Type 0 where
  pub free : is_unclaimed old.bytes ≡ true
  pub bytes : SaysFirstOf v slips new.bytes
  pub moments : Throughout (synced old) new (SaysFirstOf v slips)

-- and all of them were written
pub record IsFilled (v : Values) (slips : List Slip) (old new : DiskState) : Type 0 where
  pub begun : IsBegun v slips old new
  pub all : SaysAllOf v slips new

-- what is left on a disk if not all slips were written, by the fault: nothing was done, no journal was made, or some
-- first ones are there
abbrev pub LeavesUnfilled : CliFault → Values → List Slip → DiskState → DiskState → Type 0
LeavesUnfilled Memory v slips old new = (new ≡ old) ⊎ IsBegun v slips old new
LeavesUnfilled (Journal fault) v slips old new = IsNotClaimed v fault old new
LeavesUnfilled (Store fault) v slips old new = IsBegun v slips old new
LeavesUnfilled fault v slips old new = ⊥

-- and by how the writing ended: all are there, or not
abbrev pub LeavesNew : {T : Type 0} → Result T CliFault → Values → List Slip → DiskState → DiskState → Type 0
LeavesNew (Ok done) v slips old new = IsFilled v slips old new
LeavesNew (Err fault) v slips old new = LeavesUnfilled fault v slips old new

-- how many calls of the disk failed after that: one more exactly if the fault is one of the disk
abbrev pub failing_calls : CliFault → ℕ → ℕ
failing_calls (Journal Disk) n = one_more n
failing_calls (Store store.Disk) n = one_more n
failing_calls fault n = n

abbrev pub writing_faults : {T : Type 0} → Result T CliFault → ℕ → ℕ
writing_faults (Ok done) n = n
writing_faults (Err fault) n = failing_calls fault n
