-- What the command `share` writes for a plan, and what it leaves on its disk.
use Rattle.std.specs.Prelude.{◌≡◌, ◌⊎◌, ◌++◌, ℕ, List, [], ◌∷◌, length, codes, Option, Some, None, Result, Ok}
use Rattle.std.specs.Prelude.{Err, IfErr, ⊤}
use Rattle.std.specs.Fmt.{decimal}
use Rattle.cut_faults.specs.Failures.{one_more}
use Rattle.cut_plan.specs.Values.{Values}
use Rattle.cut_disks.specs.State.{DiskState}
use Rattle.cut_disks.specs.Log.{DiskLog, IsKnown, is_known, on}
use Rattle.cut_files.specs.Place.{Place}
use Rattle.cut_ledger.specs.declared.slip.Slip.{Slip}
use Rattle.cut_ledger.specs.Slips.{AreGood, IsFirstBad}
use Rattle.cut_journal.specs.declared.fault.JournalFault.TheVariants as journal
use Rattle.cut_journal.specs.Journal.{AppendsEach}
use Rattle.cut_journal.specs.Opening.{IsFoundOn, IsOpenFault, IsOpening}
use Rattle.cut_journal.specs.Reading.{reading}
use Rattle.cut_journal.specs.declared.store_fault.StoreFault.{StoreFault}
use Rattle.cut_journal.specs.declared.store_fault.StoreFault.TheVariants as store
use Rattle.cut_shares.specs.declared.share.share.Share.{Share}
use Rattle.cut_shares.specs.share.Running.{AreOfShare, AreWhole, IsNotDone}
use Rattle.cut_shares.specs.share.Share.{trials_of_share}
use Rattle.cut_wires.specs.Log.{WireLog}
use Rattle.cut_commands.specs.Faults.{fault_of_store}
use Rattle.cut_commands.specs.Run.{CommandAnswers, EndsOver, EndsRead, HasUnread, LeavesUnread}
use Rattle.cut_commands.specs.Study.{MayStop}
use Rattle.cut_commands.specs.Task.{Task}
use Rattle.cut_commands.specs.declared.fault.CliFault.{CliFault}
use Rattle.cut_commands.specs.declared.fault.CliFault.TheVariants.{Memory, Write, Journal, BadSlip}
use Rattle.cut_commands.specs.declared.fault.CliFault.TheVariants.{Checkpoint, WorkMemory}

-- ---- the answer

-- the line that says how many trials a share has, all of which are held
unfoldable pub share_line : Share → ℕ → List ℕ
share_line s n =
    codes "share " ++ decimal s.index ++ codes " of " ++ decimal s.shares ++ codes ": " ++ decimal n ++ codes " of "
    ++ decimal n ++ 10 ∷ []

-- what is written to a plan at most, by how the command ends: the line, and nothing at a fault other than that of a
-- write
abbrev pub answer_at : Result ⊤ CliFault → Share → Values → List ℕ
answer_at (Ok done) s v = share_line s (length (trials_of_share s v))
answer_at (Err (Write fault)) s v = share_line s (length (trials_of_share s v))
answer_at (Err fault) s v = []

-- ---- the disk

-- bytes say these slips, or these and the doubtful one, if there is one
abbrev pub SayUpTo : Values → List Slip → Option Slip → List ℕ → Type 0
SayUpTo v slips None bytes = reading v bytes ≡ Ok slips
SayUpTo v slips (Some slip) bytes = (reading v bytes ≡ Ok slips) ⊎ (reading v bytes ≡ Ok (slips ++ slip ∷ []))

-- slips were found on a disk, and others added to them. What a crash leaves at each moment is said for the opening,
-- after which the disk is `opened`, and then for one append after another
pub record HasAdded (v : Values) (slips added : List Slip) (doubtful : Option Slip) (old new : DiskState) : Type 0 where
  pub found : IsFoundOn v old.bytes slips
  pub opened : DiskState
  pub opening : IsOpening v old opened
  pub moments : AppendsEach v slips doubtful added opened new
  pub bytes : SayUpTo v (slips ++ added) doubtful new.bytes

-- the same of a disk and of what it is afterwards, if its bytes are known
abbrev pub AddsTo : Values → List Slip → List Slip → Option Slip → DiskLog → DiskLog → Type 0
AddsTo v slips added doubtful disk back = IsKnown disk → HasAdded v slips added doubtful (on disk) (on back)

-- no slip was added, and the disk is as the opening left it
abbrev pub Opens : Values → DiskLog → DiskLog → Type 0
Opens v disk back = IsKnown disk → IsOpening v (on disk) (on back)

-- all trials of a share are held: what the slips that were found lacked of them is in those added, each once
pub record KeepsAll (s : Share) (v : Values) (disk back : DiskLog) : Type 0 where
  pub slips : List Slip
  pub added : List Slip
  pub adds : AddsTo v slips added None disk back
  pub good : AreGood v slips
  pub own : AreOfShare s v slips added
  pub whole : AreWhole s v slips added

-- what is on the disk of a share whose plan was read, by how the command ends. All is kept at Ok and if a write failed.
-- If memory ran out, some slips of the share were added, and a trial of it is in none, or no slip was. If the disk
-- failed some were added, and one more is doubtful. None was added if a slip is bad, if the journal was not opened, and
-- if memory ran out for its opening
abbrev pub Keeps : Result ⊤ CliFault → Share → Values → DiskLog → DiskLog → Type 0
Keeps (Ok done) s v disk back = KeepsAll s v disk back
Keeps (Err (Write fault)) s v disk back = KeepsAll s v disk back
Keeps (Err WorkMemory) s v disk back =
    (slips : List Slip) × (added : List Slip) × (AddsTo v slips added None disk back × AreOfShare s v slips added
    × ((added ≡ []) ⊎ (AreGood v slips × IsNotDone s v (slips ++ added))))
Keeps (Err Checkpoint) s v disk back =
    (slips : List Slip) × (added : List Slip) × (slip : Slip) × (AddsTo v slips added (Some slip) disk back
    × AreGood v slips × AreOfShare s v slips (added ++ slip ∷ []))
Keeps (Err (BadSlip number)) s v disk back =
    (slips : List Slip) × (AddsTo v slips [] None disk back × IsFirstBad v slips number)
Keeps (Err (Journal fault)) s v disk back =
    MayStop fault × (IsKnown disk → IsOpenFault v (on disk).bytes fault) × Opens v disk back
Keeps (Err Memory) s v disk back = Opens v disk back
Keeps (Err fault) s v disk back = ⊥

-- the answer of a share, or why there is none, with what is on its disk then
abbrev pub share_task : Result ⊤ CliFault → Share → DiskLog → DiskLog → Task
share_task ended s disk back = record {
  answers = λ v whole. (whole ≡ answer_at ended s v) × Keeps ended s v disk back;
  fails = λ v fault. Keeps (Err fault) s v disk back;
}

-- how the steps between the reading of a plan and the answer end: the share has n trials, and all are kept; or as
-- the command ends
abbrev pub EndsKeeping : Result ℕ CliFault → Share → Values → DiskLog → DiskLog → Type 0
EndsKeeping (Ok n) s v disk back = (n ≡ length (trials_of_share s v)) × KeepsAll s v disk back
EndsKeeping (Err (Write fault)) s v disk back = ⊥
EndsKeeping (Err fault) s v disk back = Keeps (Err fault) s v disk back

-- how many calls of the disk failed: one more exactly where the command ends with the fault of its opening or of an
-- append
abbrev pub disk_faults_after : {T : Type 0} → Result T CliFault → ℕ → ℕ
disk_faults_after (Err (Journal journal.Disk)) n = one_more n
disk_faults_after (Err Checkpoint) n = one_more n
disk_faults_after result n = n

-- the fault of the program if a share was not run to its end
abbrev pub fault_of_share : StoreFault → CliFault
fault_of_share (store.BadSlip number) = BadSlip number
fault_of_share store.Disk = Checkpoint
fault_of_share store.Memory = WorkMemory
fault_of_share store.WorkMemory = WorkMemory
fault_of_share fault = fault_of_store fault

-- how the command ends over a disk, by where its plan is read from, and what it leaves there
pub record SharesOn (plan : Option Place) (ended : Result ⊤ CliFault) (s : Share) (disk back : DiskLog) (old new : WireLog)
    : Type 0 where
  pub command : EndsRead (CommandAnswers (share_task ended s disk back)) plan old new ended
  pub unread : IfErr ended (λ fault. LeavesUnread Opens plan fault disk back old new)
  pub known : is_known back ≡ is_known disk
  pub faults : back.failed ≡ disk_faults_after ended disk.failed

-- how the command ends over a disk, which is untouched if the plan's file was not read
abbrev pub SharesFrom : Option Place → Result ⊤ CliFault → Share → DiskLog → DiskLog → WireLog → WireLog → Type 0
SharesFrom plan ended s disk back old new =
    SharesOn plan ended s disk back old new ⊎ ((back ≡ disk) × HasUnread plan ended old new)

-- ---- over a file

-- how it ends over what stands at a path, by where its plan is read from
abbrev pub EndsShare : Result ⊤ CliFault → Share → Option Place → Place → Place → WireLog → WireLog → Type 0
EndsShare ended s plan place after old new =
    EndsOver (λ disk back. SharesFrom plan ended s disk back old new) place after old new ended
