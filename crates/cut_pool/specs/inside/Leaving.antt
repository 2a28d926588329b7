-- What only the crate's own clauses and proofs cite, beside specs/Leaving.antt.
use Rattle.std.specs.Prelude.{◌≡◌, true, List, Option, Some, None, IsOk, IsErrOf, Result, Vec, ⊤}
use Rattle.cut_disks.specs.Log.{DiskLog, IsKnown, on}
use Rattle.cut_ledger.specs.declared.slip.Slip.{Slip}
use Rattle.cut_ledger.specs.Contents.{is_complete}
use Rattle.cut_ledger.specs.Machine.{StudyState}
use Rattle.cut_journal.specs.Journal.{JournalValue, IsFileOf}
use Rattle.cut_book.specs.declared.call.Call.{Call}
use Rattle.cut_book.specs.Book.{BookValue, opening_of}
use Rattle.cut_book.specs.History.{opened_by, LeadsTo}
use Rattle.cut_book.specs.Kept.{IsLeftWith, disk_start_of}
use Rattle.cut_pool.specs.declared.run_fault.RunFault.{RunFault}
use Rattle.cut_pool.specs.declared.run_fault.RunFault.TheVariants.{Checkpoint}
use Rattle.cut_pool.specs.declared.study_run.Done.{Done}

-- the journal that a study is to begin with, if it is kept
abbrev pub journal_in : {D A : Type 0} → Option (JournalValue D × Vec Slip A) → Option (JournalValue D)
journal_in None = None
journal_in (Some kept) = Some kept.0

-- the disk of a journal, which is the journal's file where its bytes are known
abbrev pub IsDiskOf : {D : Type 0} → (D → DiskLog) → Option (JournalValue D) → Option D → Type 0
IsDiskOf log_of None None = ⊤
IsDiskOf log_of (Some log) (Some disk) =
    (disk ≡ log.disk)
    × (IsKnown (log_of log.disk) → IsFileOf log.plan log.count log.doubtful (on (log_of log.disk)))
IsDiskOf log_of log disk = ⊥

-- how a study whose book was opened leaves its journal: after calls that led to a state in which every trial is held if
-- the run is done, and an append has failed if it answers Checkpoint
pub record LeavesJournal {D : Type 0} (log_of : D → DiskLog) (book : BookValue D) (ended : Result Done RunFault)
    (left : Option (JournalValue D)) : Type 0 where
  pub calls : List Call
  pub state : StudyState
  pub leads : LeadsTo (opened_by (opening_of book)) calls state
  pub journal : IsLeftWith log_of (opening_of book) (disk_start_of log_of book) state left
  pub whole : IsOk ended → is_complete state.ledger ≡ true
  pub cause : IsErrOf ended Checkpoint → state.broken ≡ true

-- and its disk
pub record LeavesBegun {D : Type 0} (log_of : D → DiskLog) (book : BookValue D) (ended : Result Done RunFault)
    (disk : Option D) : Type 0 where
  pub left : Option (JournalValue D)
  pub leaves : LeavesJournal log_of book ended left
  pub disk_is : IsDiskOf log_of left disk
