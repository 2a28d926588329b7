-- The reading of a file's slips one after another, by what is still to be read.
use Rattle.std.specs.Prelude.{◌≡◌, ◌<◌, ℕ, List, [], Option, Some, None, Result, Ok, Err, ⊤}
use Rattle.cut_plan.specs.Values.{Values}
use Rattle.cut_ledger.specs.declared.slip.Slip.{Slip}
use Rattle.cut_journal.specs.declared.fault.JournalFault.{JournalFault}
use Rattle.cut_journal.specs.declared.fault.JournalFault.TheVariants.{Memory}
use Rattle.cut_journal.specs.Reading.{then_slips, reading}

-- the slips that are still to be read, or the fault that comes after some of them; and how many bytes are left
pub record Unread : Type 0 where
  pub slips : Result (List Slip) JournalFault
  pub left : ℕ

-- a slip was read, and what comes after it is still to be read; or there was none, or a fault, and there it stays
abbrev pub IsReadNext : Result (Option Slip) JournalFault → Unread → Unread → Type 0
IsReadNext (Ok (Some slip)) old new = (old.slips ≡ then_slips slip new.slips) × (new.left < old.left)
IsReadNext (Ok None) old new = (old.slips ≡ Ok []) × (new ≡ old)
IsReadNext (Err fault) old new = (old.slips ≡ Err fault) × (new ≡ old)

-- why the slips of a plan can't be read from bytes: memory ran out, or it is the fault that they are read with
abbrev pub IsUnreadable : Values → List ℕ → JournalFault → Type 0
IsUnreadable v bytes Memory = ⊤
IsUnreadable v bytes fault = reading v bytes ≡ Err fault
