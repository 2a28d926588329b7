-- What a crash does to a run of a study that keeps its slips in a journal.
use Rattle.std.specs.Prelude.{◌≡◌, ◌↔◌, ℕ, Bool, true, List, Option, None, Some, is_some, unwrap_or, Result, Ok, Err}
use Rattle.std.specs.Prelude.{IsSome, IsErrOf, length, ⊤}
use Rattle.std.specs.List.{AllByRecursion}
use Rattle.cut_plan.specs.Values.{Values}
use Rattle.cut_plan.specs.Plan.{IsPlan}
use Rattle.cut_outcome.specs.Computed.{Computed}
use Rattle.cut_disks.specs.State.{DiskState, IsImage, Throughout}
use Rattle.cut_ledger.specs.declared.slip.Slip.{Slip}
use Rattle.cut_ledger.specs.declared.event.Event.TheVariants.{HandIn, HandInDiskFails, CrashReopen}
use Rattle.cut_ledger.specs.declared.event.Event.{Event}
use Rattle.cut_ledger.specs.Machine.{StudyState, after, opened, start, slip_of, slips_found}
use Rattle.cut_ledger.specs.Slips.{AreGood}
use Rattle.cut_ledger.specs.World.{begun, run, HasTrueResult}
use Rattle.cut_ledger.specs.Refusals.{refusal_of}
use Rattle.cut_journal.specs.declared.fault.JournalFault.{JournalFault}
use Rattle.cut_journal.specs.declared.fault.JournalFault.TheVariants.{Disk, Broken}
use Rattle.cut_journal.specs.Reading.{reading}
use Rattle.cut_journal.specs.Journal.{JournalValue, kept_slips, ReadsAs, IsFileOf, LeavesAppend, slips_after}

-- the journal of a run: they are of one plan, with the same slips kept and the same doubtful one; and the run is
-- broken exactly where there is a doubtful one
pub record IsJournalOf (v : Values) (count : ℕ) (doubtful : Option Slip) (d : DiskState) (s : StudyState) : Type 0 where
  pub plan : s.ledger.plan ≡ v
  pub journal : s.has_journal ≡ true
  pub kept : s.kept ≡ kept_slips v count d
  pub doubt : s.doubtful ≡ doubtful
  pub broken : s.broken ≡ is_some doubtful

-- an event that is no result and no crash
abbrev pub LeavesSlips : Event → Type 0
LeavesSlips (HandIn r) = ⊥
LeavesSlips (HandInDiskFails r) = ⊥
LeavesSlips (CrashReopen keep size) = ⊥
LeavesSlips event = ⊤

-- a journal that was made, or opened again, is that of the run that is opened over its slips
abbrev pub OpeningsFollow : Type 0
OpeningsFollow = (v : Values) (count : ℕ) (slips : List Slip) (d : DiskState) (size : ℕ) → reading v d.bytes ≡ Ok slips
    → count ≡ length slips
    → IsJournalOf v count None d (opened v true slips size)

-- whatever else happens to a run, its journal stays so
abbrev pub OtherEventsFollow : Type 0
OtherEventsFollow = (v : Values) (count : ℕ) (doubtful : Option Slip) (d : DiskState) (s : StudyState) (event : Event)
    → IsJournalOf v count doubtful d s → LeavesSlips event
    → IsJournalOf v count doubtful d (after s event)

-- bytes say slips, and a study that is opened over these is what the run is after a crash, with one choice
-- whether the doubtful slip is kept
abbrev pub IsResumed : Values → StudyState → List ℕ → Type 0
IsResumed v s bytes = (keep : Bool) × ((slips : List Slip)
    × ((reading v bytes ≡ Ok slips) × ((size : ℕ) → after s (CrashReopen keep size) ≡ opened v true slips size)))

-- a crash between two calls of the journal
abbrev pub CrashesBetweenCalls : Type 0
CrashesBetweenCalls = (v : Values) (count : ℕ) (doubtful : Option Slip) (d : DiskState) (s : StudyState)
    → IsFileOf v count doubtful d → IsJournalOf v count doubtful d s
    → (image : List ℕ) → IsImage d.stable image → IsResumed v s image

-- a crash at any moment of an append of a result that the ledger takes: the run is then as one in which the disk
-- failed in it
abbrev pub CrashesInAppends : Type 0
CrashesInAppends = (v : Values) (count : ℕ) (doubtful : Option Slip) (old new : DiskState) (s : StudyState)
    (r : Computed) → IsJournalOf v count doubtful old s
    → refusal_of s.ledger r ≡ None → Throughout old new
    (ReadsAs v (kept_slips v count old) (Some (unwrap_or doubtful (slip_of r))))
    → Throughout old new (IsResumed v (after s (HandInDiskFails r)))

-- what a run is after an append that answered this
abbrev pub after_append : Result ℕ JournalFault → StudyState → Computed → StudyState
after_append (Ok number) s r = after s (HandIn r)
after_append (Err Disk) s r = after s (HandInDiskFails r)
after_append (Err fault) s r = s

-- an append of a result that the ledger takes: the journal stays that of the run
abbrev pub AppendsFollow : Type 0 → Type 0
AppendsFollow D = (result : Result ℕ JournalFault) (r : Computed) (old new : JournalValue D) (before now : DiskState)
    (s : StudyState) → IsJournalOf old.plan old.count old.doubtful before s
    → refusal_of s.ledger r ≡ None → (IsErrOf result Broken ↔ IsSome old.doubtful)
    → LeavesAppend result (slip_of r) old new
    → kept_slips new.plan new.count now ≡ slips_after result (slip_of r) (kept_slips old.plan old.count before)
    → IsJournalOf new.plan new.count new.doubtful now (after_append result s r)

-- the slips that a run finds after a crash, whatever came before it, are good ones to begin a ledger with
abbrev pub ResumedSlipsAreGood : Type 0
ResumedSlipsAreGood = (v : Values) (size : ℕ) (events : List Event) (keep : Bool) → IsPlan v
    → AllByRecursion HasTrueResult events
    → AreGood v (slips_found (run (begun (start v size true)) events).state keep)
