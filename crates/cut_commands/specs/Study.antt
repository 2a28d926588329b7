-- What a study writes for a plan, and what it leaves on the disk of its checkpoint.
use Rattle.std.specs.Prelude.{◌≡◌, ◌⊎◌, ◌++◌, ℕ, List, [], Option, Some, None, Result, Ok, Err, ⊤}
use Rattle.std.specs.Prelude.{IfErr, IsOk, IsErrOf, IsSome, is_some}
use Rattle.std.specs.Borrow.{Bor}
use Rattle.cut_plan.specs.Values.{Values}
use Rattle.cut_plan.specs.Plan.{IsPlan}
use Rattle.cut_ledger.specs.lines.Lines.{table}
use Rattle.cut_disks.specs.Log.{DiskLog, IsKnown, is_known, on}
use Rattle.cut_files.specs.Place.{Place, StaysElsewhere, while_open}
use Rattle.cut_ledger.specs.declared.slip.Slip.{Slip}
use Rattle.cut_ledger.specs.Machine.{some_slip}
use Rattle.cut_ledger.specs.Table.{table_over}
use Rattle.cut_ledger.specs.Slips.{AreGood, IsFirstBad}
use Rattle.cut_ledger.specs.World.{AreTrue}
use Rattle.cut_journal.specs.declared.fault.JournalFault.{JournalFault}
use Rattle.cut_journal.specs.declared.fault.JournalFault.TheVariants as journal
use Rattle.cut_journal.specs.declared.fault.JournalFault.TheVariants.{Disk, NoStudy, OtherPlan, Damaged, Held}
use Rattle.cut_journal.specs.Journal.{fault_counts}
use Rattle.cut_journal.specs.Opening.{IsFoundOn, IsOpenFault, IsOpening}
use Rattle.cut_journal.specs.Reading.{reading}
use Rattle.cut_wires.specs.Log.{WireLog}
use Rattle.cut_book.specs.Book.{failed_since}
use Rattle.cut_book.specs.Kept.{AreOfStudy, AreAllOfStudy}
use Rattle.cut_pool.specs.Leaving.{KeepsSlips}
use Rattle.cut_commands.specs.Run.{CommandAnswers, EndsCommandFrom, EndsOver, EndsRead, HasUnread, LeavesUnread}
use Rattle.cut_commands.specs.Run.{plan_place}
use Rattle.cut_commands.specs.Task.{Task}
use Rattle.cut_commands.specs.declared.fault.CliFault.{CliFault}
use Rattle.cut_commands.specs.declared.fault.CliFault.TheVariants.{Journal, BadSlip, Checkpoint}
use Rattle.cut_commands.specs.declared.fault.CliFault.TheVariants.{WorkMemory, AuditMismatch}

-- the whole table over slips with which a study can begin
pub record IsTableOver (slips : List Slip) (v : Values) (whole : List ℕ) : Type 0 where
  pub good : AreGood v slips
  pub is : whole ≡ table_over v slips

-- the faults by which a checkpoint is not opened, of whichever disk
abbrev pub MayStop : JournalFault → Type 0
MayStop Disk = ⊤
MayStop OtherPlan = ⊤
MayStop (Damaged number) = ⊤
MayStop Held = ⊤
MayStop NoStudy = ⊤
MayStop fault = ⊥

-- why not all of a study's table is written, with a disk or without one: memory ran out, or counts of the same
-- work differed
abbrev pub MayEnd : CliFault → Type 0
MayEnd WorkMemory = ⊤
MayEnd AuditMismatch = ⊤
MayEnd fault = ⊥

-- ---- over a disk, or without one

-- the slips with which a study begins: none without a disk, and those that one holds of which they are known
abbrev pub BeginsWith : Option DiskLog → Values → List Slip → Type 0
BeginsWith None v slips = slips ≡ []
BeginsWith (Some d) v slips = IsKnown d → IsFoundOn v (on d).bytes slips

-- what is on a disk after a study of a plan that began with these slips: these and, in order, true ones of what was run,
-- all that it lacked where the study is done. The slip of an append in which the disk failed may be there, too; that is
-- one failed call more, and without one the study does not end by the fault of its checkpoint. After a bad slip nothing
-- was added, and the disk is as the opening left it
pub record KeepsOn (ended : Result ⊤ CliFault) (v : Values) (slips : List Slip) (disk back : DiskLog) : Type 0 where
  pub added : List Slip
  pub doubtful : Option Slip
  pub own : AreOfStudy v slips (added ++ some_slip doubtful)
  pub all : IsOk ended → AreAllOfStudy v slips added × (doubtful ≡ None)
  pub cause : IsErrOf ended Checkpoint → IsSome doubtful
  pub opened : (number : ℕ) → ended ≡ Err (BadSlip number) → IsKnown disk → IsOpening v (on disk) (on back)
  pub known : is_known back ≡ is_known disk
  pub failures : back.failed ≡ failed_since (is_some doubtful) disk.failed
  pub keeps : IsKnown disk → KeepsSlips v slips added doubtful (on back)

-- the disk comes back so, if there is one
abbrev pub KeepsStudy : Result ⊤ CliFault → Values → List Slip → Option DiskLog → Option DiskLog → Type 0
KeepsStudy ended v slips None back = back ≡ None
KeepsStudy ended v slips (Some disk) None = ⊥
KeepsStudy ended v slips (Some disk) (Some back) = KeepsOn ended v slips disk back

-- what is on a disk of which no journal was opened, by why not: what the opening left, and one failed call more where
-- that is why
pub record IsUnopened (v : Values) (fault : JournalFault) (disk back : DiskLog) : Type 0 where
  pub opening : IsKnown disk → IsOpening v (on disk) (on back)
  pub known : is_known back ≡ is_known disk
  pub failures : back.failed ≡ fault_counts fault disk.failed

abbrev pub LeavesUnopened : Values → JournalFault → Option DiskLog → Option DiskLog → Type 0
LeavesUnopened v fault (Some disk) (Some back) = IsUnopened v fault disk back
LeavesUnopened v fault disk back = ⊥

-- the table of a study over the slips with which it begins, and what it keeps of it
pub record StudyWrites (ended : Result ⊤ CliFault) (disk back : Option DiskLog) (v : Values) (whole : List ℕ) : Type 0
  where
    pub slips : List Slip
    pub begins : BeginsWith disk v slips
    pub over : IsTableOver slips v whole
    pub keeps : KeepsStudy ended v slips disk back

-- a study that was stopped by a fault: what it keeps
pub record IsStopped (fault : CliFault) (disk back : Option DiskLog) (v : Values) : Type 0 where
  pub slips : List Slip
  pub begins : BeginsWith disk v slips
  pub keeps : KeepsStudy (Err fault) v slips disk back

-- why not all of the table is written: what is on the disk, or that it failed, when the checkpoint was opened; the first
-- of its slips that is none of the plan; that the disk failed later on; or as without a disk
abbrev pub StudyFails : Option DiskLog → Option DiskLog → Values → CliFault → Type 0
StudyFails (Some d) back v (Journal fault) =
    MayStop fault × (IsKnown d → IsOpenFault v (on d).bytes fault) × LeavesUnopened v fault (Some d) back
StudyFails (Some d) back v (BadSlip number) =
    (s : IsStopped (BadSlip number) (Some d) back v) × IsFirstBad v s.slips number
StudyFails (Some d) back v Checkpoint = IsStopped Checkpoint (Some d) back v
StudyFails disk back v fault = MayEnd fault × IsStopped fault disk back v

abbrev pub study_task : Result ⊤ CliFault → Option DiskLog → Option DiskLog → Task
study_task ended disk back = record { answers = StudyWrites ended disk back; fails = StudyFails disk back }

-- a disk of which they are known, and whose slips are true and apart where it holds a study, as those are that this
-- program writes
abbrev pub IsTrueStore : Option DiskLog → Type 0
IsTrueStore None = ⊤
IsTrueStore (Some d) =
    IsKnown d × ((v : Values) (slips : List Slip) → IsPlan v → reading v (on d).bytes ≡ Ok slips
    → AreTrue v slips)

-- why a study over such a disk does not write all of its table: another plan's study, damage, or a failing call,
-- when the checkpoint was opened; that the disk failed later on; or as without a disk. No slip is a bad one
abbrev pub StoreFails : Option DiskLog → Values → CliFault → Type 0
StoreFails (Some d) v (Journal fault) = MayStop fault × IsOpenFault v (on d).bytes fault
StoreFails (Some d) v Checkpoint = ⊤
StoreFails disk v fault = MayEnd fault

-- what a study over such a disk writes: the table of the plan
abbrev pub table_task : Option DiskLog → Task
table_task disk = record { answers = λ v whole. whole ≡ table v; fails = StoreFails disk }

-- how a study ends over a disk, by where its plan is read from, and what it leaves there: the table over the slips that the
-- disk holds, which is the table of the plan if they are true
pub record RunsOver (plan : Option Place) (ended : Result ⊤ CliFault) (disk back : Option DiskLog) (old new : WireLog)
    : Type 0 where
  pub command : EndsRead (CommandAnswers (study_task ended disk back)) plan old new ended
  pub table : IsTrueStore disk → EndsRead (CommandAnswers (table_task disk)) plan old new ended
  pub unread : IfErr ended (λ fault. LeavesUnread (λ v. LeavesUnopened v journal.Memory) plan fault disk back old new)

-- the disk is untouched if the plan's file was not read
abbrev pub RunsFrom : Option DiskLog → Option DiskLog → Option Place → WireLog → WireLog → Result ⊤ CliFault → Type 0
RunsFrom disk back plan old new ended =
    RunsOver plan ended disk back old new ⊎ ((back ≡ disk) × HasUnread plan ended old new)

-- how it ends if its plan is read from the wire and its disk is given up
abbrev pub RunsOn : Option DiskLog → WireLog → WireLog → Result ⊤ CliFault → Type 0
RunsOn disk old new ended = (back : Option DiskLog) × RunsFrom disk back None old new ended

-- ---- over a file

-- how it ends over what stands at a path, by where its plan is read from
abbrev pub EndsStudy : Option Place → Place → Place → WireLog → WireLog → Result ⊤ CliFault → Type 0
EndsStudy plan place after old new result =
    EndsOver (λ disk back. RunsFrom (Some disk) (Some back) plan old new result) place after old new result

-- ---- without a disk

-- what is written is the table of the plan
abbrev pub plain_task : Task
plain_task = record { answers = λ v whole. whole ≡ table v; fails = λ v fault. MayEnd fault }

-- ---- by the file that keeps it, if one does, and that of its plan

-- how it ends, by what stands at each path before and after: without a file of its own the table is that of the plan, and
-- every file stays
abbrev pub EndsRun : Option (Bor (List ℕ)) → Option (Bor (List ℕ)) → (List ℕ → Place) → (List ℕ → Place) → WireLog
    → WireLog → Result ⊤ CliFault → Type 0
EndsRun None plan before after old new result =
    EndsCommandFrom plain_task (plan_place before plan) old new result × (after ≡ before)
EndsRun (Some file) plan before after old new result =
    EndsStudy (plan_place (while_open file.now before) plan) (before file.now) (after file.now) old new result
    × StaysElsewhere file.now before after
