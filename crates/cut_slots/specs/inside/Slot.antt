-- What only the crate's own clauses and proofs cite, beside specs/Slot.antt and specs/Turn.antt.
use Rattle.std.specs.Prelude.{ℕ, Bool, true, false, Option, Some, None, Result, Ok, Err, ⊤}
use Rattle.cut_book.specs.Book.{BookValue}
use Rattle.cut_book.specs.declared.opened.Opened.{Opened}
use Rattle.cut_slots.specs.declared.next_row_fault.NextRowFault.{NextRowFault}
use Rattle.cut_slots.specs.Slot.{AnswersLine}

-- whether a slot can give the line of a cell of an opened study, by its book, as it would then answer
abbrev pub CanGive : {D : Type 0} → Result Bool NextRowFault → Opened → ℕ → Option (BookValue D) → Type 0
CanGive (Ok true) o cell book = AnswersLine {T = ⊤} (Ok (Some tt)) o cell book
CanGive (Ok false) o cell book = AnswersLine {T = ⊤} (Ok None) o cell book
CanGive (Err fault) o cell book = AnswersLine {T = ⊤} (Err fault) o cell book
