-- How the study of a plan is opened over what a shelf gives.
use Rattle.std.specs.Prelude.{◌≡◌, IsSome, Option, Some, None, Result, Ok, Err, ⊤}
use Rattle.cut_plan.specs.Values.{Values}
use Rattle.cut_disks.specs.State.{DiskState}
use Rattle.cut_disks.specs.Log.{DiskLog, IsKnown, on}
use Rattle.cut_journal.specs.Opening.{IsFoundOn}
use Rattle.cut_book.specs.declared.shelf.ShelfFault.{ShelfFault}
use Rattle.cut_book.specs.declared.submit_fault.SubmitFault.{SubmitFault}
use Rattle.cut_book.specs.declared.submit_fault.SubmitFault.TheVariants.{SlotsFull, WorkMemory}
use Rattle.cut_book.specs.Faults.{of_shelf}
use Rattle.cut_book.specs.Book.{BookValue}

-- over a disk with a journal, and over the slips that it has for the plan if its bytes are known, so not if they are
-- damaged or another plan's; if the shelf has none, without a journal, which only memory can keep from it; and if the
-- shelf fails, not at all
abbrev pub OpensOver : {D : Type 0} → (D → DiskLog) → Values → Result (Option D) ShelfFault
    → Result (BookValue D) SubmitFault → Type 0
OpensOver log_of v (Err fault) result = result ≡ Err (of_shelf fault)
OpensOver log_of v (Ok None) (Ok b) = b.journal ≡ None
OpensOver log_of v (Ok None) (Err fault) = fault ≡ WorkMemory
OpensOver log_of v (Ok (Some disk)) (Ok b) =
    IsSome b.journal × (IsKnown (log_of disk) → IsFoundOn v (on (log_of disk)).bytes b.state.ledger.base)
OpensOver log_of v (Ok (Some disk)) (Err SlotsFull) = ⊥
OpensOver log_of v (Ok (Some disk)) (Err fault) = ⊤
