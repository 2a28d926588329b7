-- The faults of books and of their opening: each in the program's list of faults, as it is printed, and as what it
-- becomes a layer above.
use Rattle.std.specs.Prelude.{ℕ, List}
use Rattle.std.specs.Fmt.{decimal}
use Rattle.cut_faults.specs.declared.code.FaultCode.{FaultCode}
use Rattle.cut_faults.specs.declared.code.FaultCode.TheVariants as code
use Rattle.cut_faults.specs.Codes.{code_text, text_carrying}
use Rattle.cut_journal.specs.declared.fault.JournalFault.{JournalFault}
use Rattle.cut_journal.specs.declared.fault.JournalFault.TheVariants as journal
use Rattle.cut_ledger.specs.declared.slips_fault.SlipsFault.{SlipsFault}
use Rattle.cut_ledger.specs.declared.slips_fault.SlipsFault.TheVariants as slips
use Rattle.cut_table.specs.declared.fault.RowFault.{RowFault}
use Rattle.cut_table.specs.declared.fault.RowFault.TheVariants as row
use Rattle.cut_book.specs.declared.fault.BookFault.{BookFault}
use Rattle.cut_book.specs.declared.fault.BookFault.TheVariants as book
use Rattle.cut_book.specs.declared.shelf.ShelfFault.{ShelfFault}
use Rattle.cut_book.specs.declared.shelf.ShelfFault.TheVariants as shelf
use Rattle.cut_book.specs.declared.submit_fault.SubmitFault.{SubmitFault}
use Rattle.cut_book.specs.declared.submit_fault.SubmitFault.TheVariants as submit

-- ---- books

abbrev pub code_of : BookFault → FaultCode
code_of book.Memory = code.Memory
code_of book.BadPiece = code.BadPiece
code_of book.Stranger = code.Stranger
code_of book.Overlap = code.Overlap
code_of (book.BadSlip number) = code.BadSlip
code_of (book.NotDone cell) = code.NotDone
code_of book.Checkpoint = code.Checkpoint

-- number, name, and the number of the slip or of the cell
abbrev pub fault_text : BookFault → List ℕ
fault_text (book.BadSlip number) = text_carrying code.BadSlip (decimal number)
fault_text (book.NotDone cell) = text_carrying code.NotDone (decimal cell)
fault_text fault = code_text (code_of fault)

-- why a ledger was not made of slips, as a fault of its book
abbrev pub of_slips : SlipsFault → BookFault
of_slips slips.Memory = book.Memory
of_slips (slips.BadSlip number) = book.BadSlip number

-- the fault of a row as one of its book
abbrev pub of_row : RowFault → BookFault
of_row row.Memory = book.Memory
of_row (row.NotDone cell) = book.NotDone cell

-- ---- opening

abbrev pub code_of_submit : SubmitFault → FaultCode
code_of_submit submit.SlotsFull = code.SlotsFull
code_of_submit submit.Checkpoint = code.Checkpoint
code_of_submit submit.WorkMemory = code.WorkMemory

-- why a study was not taken whose shelf, journal or book was refused: that memory ran out as such, and else the
-- checkpoint
abbrev pub of_shelf : ShelfFault → SubmitFault
of_shelf shelf.Memory = submit.WorkMemory
of_shelf shelf.Open = submit.Checkpoint

abbrev pub of_journal : JournalFault → SubmitFault
of_journal journal.Memory = submit.WorkMemory
of_journal fault = submit.Checkpoint

abbrev pub of_book : BookFault → SubmitFault
of_book book.Memory = submit.WorkMemory
of_book fault = submit.Checkpoint
