-- Studies that a hall does not take.
use Rattle.std.proofs.Common.{◌≡◌, Option, Result, Ok, Err}
use Rattle.std.specs.Prelude.{IfErr}
use Rattle.cut_book.specs.declared.shelf.ShelfFault.{ShelfFault}
use Rattle.cut_book.specs.declared.submit_fault.SubmitFault.{SubmitFault}
use Rattle.cut_book.specs.declared.submit_fault.SubmitFault.TheVariants.{WorkMemory, SlotsFull, Checkpoint}
use Rattle.cut_slots.specs.Slot.{CanNotBegin, CanNotTake}

module _ {D T : Type 0} (gives : Result (Option D) ShelfFault → Type 0) where
  -- those that are refused for memory, whatever their shelf gives
  pub refused_memory : (result : Result T SubmitFault) → IfErr result (λ e. e ≡ WorkMemory)
      → IfErr result (CanNotTake gives)
  refused_memory (Ok value) why = tt
  refused_memory (Err fault) why = rw why tt

  -- those that are not begun
  pub not_begun : (result : Result T SubmitFault) → IfErr result (CanNotBegin gives) → IfErr result (CanNotTake gives)
  not_begun (Ok value) why = tt
  not_begun (Err WorkMemory) why = tt
  not_begun (Err SlotsFull) why = tt
  not_begun (Err Checkpoint) why = why
