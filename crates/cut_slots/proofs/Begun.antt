-- Studies that are begun over what a shelf gave.
use Rattle.std.proofs.Common.{Option, Some, None, Result, Ok, Err, is_some, ap}
use Rattle.cut_plan.specs.Values.{Values}
use Rattle.cut_disks.specs.Log.{DiskLog}
use Rattle.cut_book.specs.declared.shelf.ShelfFault.{ShelfFault}
use Rattle.cut_book.specs.Book.{BookValue}
use Rattle.cut_book.specs.Shelf.{OpensOver}
use Rattle.cut_slots.specs.Slot.{IsBegunOver}

pub begun_over : {D : Type 0} (log_of : D → DiskLog) (v : Values)
    (gives : Result (Option D) ShelfFault → Type 0) (given : Result (Option D) ShelfFault) (b : BookValue D)
    → gives given → OpensOver log_of v given (Ok b) → IsBegunOver gives (is_some b.journal)
begun_over log_of v gives (Err fault) b gave over = absurd (let none : ⊥ = cc in none)
begun_over log_of v gives (Ok None) b gave over = (None, (gave, ap is_some over))
begun_over log_of v gives (Ok (Some disk)) b gave over = (Some disk, (gave, over.0))
