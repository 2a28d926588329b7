-- Lines that a hall gives.
use Rattle.std.specs.Prelude.{ℕ, Result, Ok, Err, ⊤}
use Rattle.cut_slots.specs.declared.next_row_fault.NextRowFault.{NextRowFault}
use Rattle.cut_slots.specs.declared.next_row_fault.NextRowFault.TheVariants as line

-- why a line can't be given once more: the slot's book is not that study's, or memory ran out
abbrev pub CanNotGiveAgain : NextRowFault → Type 0
CanNotGiveAgain line.AuditMismatch = ⊤
CanNotGiveAgain line.WorkMemory = ⊤
CanNotGiveAgain other = ⊥

-- ---- how many calls that is

-- by waiting for a line: one if it came
abbrev pub rows_of : {T E : Type 0} → Result T E → ℕ
rows_of (Ok given) = 1
rows_of (Err fault) = 0
