-- What only the crate's own clauses and proofs cite, beside specs/Study.antt.
use Rattle.std.specs.Prelude.{◌≡◌, Option, Some, None, IfErr, Result, Vec, ⊤}
use Rattle.cut_plan.specs.Values.{Values}
use Rattle.cut_disks.specs.Log.{DiskLog, Goes}
use Rattle.cut_ledger.specs.declared.slip.Slip.{Slip}
use Rattle.cut_journal.specs.declared.fault.JournalFault.TheVariants as journal
use Rattle.cut_journal.specs.Journal.{JournalValue}
use Rattle.cut_journal.specs.Opening.{IsOpened}
use Rattle.cut_wires.specs.Log.{WireLog}
use Rattle.cut_commands.specs.Run.{LeavesStudy}
use Rattle.cut_commands.specs.Study.{LeavesUnopened, StudyFails, study_task}
use Rattle.cut_commands.specs.declared.fault.CliFault.{CliFault}
use Rattle.cut_commands.specs.declared.fault.CliFault.TheVariants.{Memory, Plan, Read, Journal}

-- a journal that takes slips of the plan
abbrev pub IsReady : {D : Type 0} → Values → JournalValue D → Type 0
IsReady v log = (log.plan ≡ v) × (log.doubtful ≡ None)

-- the journal of a disk was opened with these slips, if there is a disk
abbrev pub IsOpenedOver : {D A : Type 0} → (D → DiskLog) → Values → Option D → Option (JournalValue D × Vec Slip A)
    → Type 0
IsOpenedOver log_of v None None = ⊤
IsOpenedOver log_of v (Some disk) (Some kept) =
    Goes (λ n. n) (IsOpened v kept.1.items) (log_of disk) (log_of kept.0.disk)
IsOpenedOver log_of v disk kept = ⊥

-- or it was not, by this fault
abbrev pub IsNotOpened : Option DiskLog → Option DiskLog → Values → CliFault → Type 0
IsNotOpened disk back v Memory = LeavesUnopened v journal.Memory disk back
IsNotOpened disk back v (Journal fault) = StudyFails disk back v (Journal fault)
IsNotOpened disk back v fault = ⊥

-- if memory ran out for the opening of the journal, the disk is left as that left it; and no other fault says so
abbrev pub MayLeave : Values → Option DiskLog → Option DiskLog → CliFault → Type 0
MayLeave v disk back Memory = LeavesUnopened v journal.Memory disk back
MayLeave v disk back Read = ⊥
MayLeave v disk back (Plan refusal) = ⊥
MayLeave v disk back fault = ⊤

-- how a study of a plan that was read ends over a disk
pub record RunsPlan (v : Values) (disk back : Option DiskLog) (old new : WireLog) (ended : Result ⊤ CliFault) : Type 0
  where
    pub study : LeavesStudy (study_task ended disk back) v ended old new
    pub unopened : IfErr ended (MayLeave v disk back)
