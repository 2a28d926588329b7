-- The faults of rows and tables in the program's list of faults, and as they are printed.
use Rattle.std.specs.Prelude.{ℕ, List}
use Rattle.std.specs.Fmt.{decimal}
use Rattle.cut_faults.specs.declared.code.FaultCode.{FaultCode}
use Rattle.cut_faults.specs.declared.code.FaultCode.TheVariants as code
use Rattle.cut_faults.specs.Codes.{code_text, text_carrying}
use Rattle.cut_table.specs.declared.fault.RowFault.{RowFault}
use Rattle.cut_table.specs.declared.fault.RowFault.TheVariants as row
use Rattle.cut_table.specs.declared.fault.TableFault.{TableFault}
use Rattle.cut_table.specs.declared.fault.TableFault.TheVariants as table

abbrev pub code_of_row : RowFault → FaultCode
code_of_row row.Memory = code.Memory
code_of_row (row.NotDone cell) = code.NotDone

abbrev pub code_of_table : TableFault → FaultCode
code_of_table (table.Memory sent) = code.Memory
code_of_table (table.NotDone cell) = code.NotDone
code_of_table (table.Write fault) = code.Write

-- number, name, and the cell
abbrev pub row_fault_text : RowFault → List ℕ
row_fault_text row.Memory = code_text code.Memory
row_fault_text (row.NotDone cell) = text_carrying code.NotDone (decimal cell)

-- number, name, and the cell or how many bytes were sent
abbrev pub table_fault_text : TableFault → List ℕ
table_fault_text (table.Memory sent) = text_carrying code.Memory (decimal sent)
table_fault_text (table.NotDone cell) = text_carrying code.NotDone (decimal cell)
table_fault_text (table.Write fault) = text_carrying code.Write (decimal fault.sent)
