-- What is left of a study at the end of its slot.
use Rattle.std.proofs.Common.{◌≡◌, Bool, Option, Some, None, IfSome, subst}
use Rattle.cut_disks.specs.Log.{DiskLog}
use Rattle.cut_ledger.specs.Contents.{is_complete}
use Rattle.cut_journal.specs.Journal.{JournalValue}
use Rattle.cut_book.specs.Book.{BookValue, opening_of}
use Rattle.cut_book.specs.History.{HistoryValue, LeadsTo, opened_by}
use Rattle.cut_book.specs.Kept.{IsLeftWith, disk_start_of}
use Rattle.cut_slots.specs.Start.{IsLeftOf, StudyStart, start_in, start_of}

pub left_of : {D : Type 0} (log_of : D → DiskLog) (start : Option StudyStart) (b : BookValue D) (h : HistoryValue)
    (complete is_broken : Bool) (left : Option (JournalValue D)) → IfSome start (λ o. start_in log_of (Some b) ≡ Some o)
    → h.calls ≡ b.calls → LeadsTo (opened_by (opening_of b)) b.calls b.state → complete ≡ is_complete b.state.ledger
    → is_broken ≡ b.state.broken → IsLeftWith log_of (opening_of b) (disk_start_of log_of b) b.state left
    → IfSome start (λ o. IsLeftOf log_of o (record { history = Some h; complete = complete }) is_broken left)
left_of log_of None b h complete is_broken left start calls leads whole broken journal = tt
left_of log_of (Some o) b h complete is_broken left start calls leads whole broken journal =
    let same : start_of log_of b ≡ o = cc in
    subst (λ (s : StudyStart). IsLeftOf log_of s (record { history = Some h; complete = complete }) is_broken left) same
    (record {
      calls = b.calls;
      state = b.state;
      recorded = calls;
      leads = leads;
      complete = whole;
      broken = broken;
      journal = journal;
    })
