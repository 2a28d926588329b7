-- What only the crate's own clauses and proofs cite, beside specs/Shelf.antt.
use Rattle.std.specs.Prelude.{◌≡◌, ℕ, Vec, Some, Result, Ok, Err, ⊤}
use Rattle.cut_plan.specs.Values.{Values}
use Rattle.cut_ledger.specs.declared.slip.Slip.{Slip}
use Rattle.cut_ledger.specs.Slips.{IsFirstBad}
use Rattle.cut_journal.specs.declared.fault.JournalFault.{JournalFault}
use Rattle.cut_journal.specs.Journal.{JournalValue}
use Rattle.cut_book.specs.declared.submit_fault.SubmitFault.{SubmitFault}
use Rattle.cut_book.specs.declared.submit_fault.SubmitFault.TheVariants.{SlotsFull, Checkpoint, WorkMemory}
use Rattle.cut_book.specs.Faults.{of_journal}
use Rattle.cut_book.specs.Book.{BookValue}

-- the book of a plan's study, by how its journal was opened: refused as the journal is; or with the journal, over its
-- slips; or one of these is bad, which is the checkpoint's fault, or memory ran out
abbrev pub KeepsBook : {D A : Type 0} → Values → Result (JournalValue D × Vec Slip A) (JournalFault × D)
    → Result (BookValue D) SubmitFault → Type 0
KeepsBook v (Err refused) result = result ≡ Err (of_journal refused.0)
KeepsBook v (Ok opened) (Ok b) = (b.journal ≡ Some opened.0) × (b.state.ledger.base ≡ opened.1.items)
KeepsBook v (Ok opened) (Err WorkMemory) = ⊤
KeepsBook v (Ok opened) (Err Checkpoint) = (number : ℕ) × IsFirstBad v opened.1.items number
KeepsBook v (Ok opened) (Err SlotsFull) = ⊥
