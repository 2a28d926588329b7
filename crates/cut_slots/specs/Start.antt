-- With what a study began in a slot, and what it leaves at the slot's end.
use Rattle.std.specs.Prelude.{◌≡◌, Bool, List, Option, IfSome, option_map}
use Rattle.cut_disks.specs.Log.{DiskLog}
use Rattle.cut_ledger.specs.Contents.{is_complete}
use Rattle.cut_ledger.specs.Machine.{StudyState}
use Rattle.cut_journal.specs.Journal.{JournalValue}
use Rattle.cut_book.specs.declared.call.Call.{Call}
use Rattle.cut_book.specs.Book.{BookValue, opening_of}
use Rattle.cut_book.specs.History.{Opening, opened_by, LeadsTo}
use Rattle.cut_book.specs.Kept.{DiskStart, IsLeftWith, disk_start_of}
use Rattle.cut_slots.specs.Report.{SlotEnd, AreOpenedBy}

-- what it was opened with, and what was known of its disk then
pub record StudyStart : Type 0 where
  pub opening : Opening
  pub disk : DiskStart

abbrev pub start_of : {D : Type 0} → (D → DiskLog) → BookValue D → StudyStart
start_of log_of b = record { opening = opening_of b; disk = disk_start_of log_of b }

-- that of the book of a slot
abbrev pub start_in : {D : Type 0} → (D → DiskLog) → Option (BookValue D) → Option StudyStart
start_in log_of book = option_map (start_of log_of) book

-- if there is such a start, every slot had a study, which was opened so
abbrev pub AreOpenedWith : Option StudyStart → List SlotEnd → Type 0
AreOpenedWith start slots = IfSome start (λ s. AreOpenedBy s.opening slots)

-- what is left of a study that began so: its report has the calls that led to its last state, and says whether every trial
-- is held there; whether an append had failed; and the journal
pub record IsLeftOf {D : Type 0} (log_of : D → DiskLog) (start : StudyStart) (slot : SlotEnd) (is_broken : Bool)
    (left : Option (JournalValue D)) : Type 0 where
  pub calls : List Call
  pub state : StudyState
  pub recorded : IfSome slot.history (λ h. h.calls ≡ calls)
  pub leads : LeadsTo (opened_by start.opening) calls state
  pub complete : slot.complete ≡ is_complete state.ledger
  pub broken : is_broken ≡ state.broken
  pub journal : IsLeftWith log_of start.opening start.disk state left
