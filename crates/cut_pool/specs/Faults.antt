-- The faults of runs: in the program's list of faults, as they are printed, and as what they come from.
use Rattle.std.specs.Prelude.{ℕ, List}
use Rattle.std.specs.Fmt.{decimal}
use Rattle.cut_faults.specs.declared.code.FaultCode.{FaultCode}
use Rattle.cut_faults.specs.declared.code.FaultCode.TheVariants as code
use Rattle.cut_faults.specs.Codes.{code_text, text_carrying}
use Rattle.cut_book.specs.declared.fault.BookFault.{BookFault}
use Rattle.cut_book.specs.declared.fault.BookFault.TheVariants as book
use Rattle.cut_pool.specs.declared.run_fault.RunFault.{RunFault}
use Rattle.cut_pool.specs.declared.run_fault.RunFault.TheVariants as run

abbrev pub code_of_run : RunFault → FaultCode
code_of_run (run.BadSlip number) = code.BadSlip
code_of_run run.Checkpoint = code.Checkpoint
code_of_run (run.Write fault) = code.Write
code_of_run run.WorkMemory = code.WorkMemory
code_of_run run.AuditMismatch = code.AuditMismatch

-- number, name, and the number of the slip or of the bytes that were sent
abbrev pub run_fault_text : RunFault → List ℕ
run_fault_text (run.BadSlip number) = text_carrying code.BadSlip (decimal number)
run_fault_text (run.Write fault) = text_carrying code.Write (decimal fault.sent)
run_fault_text fault = code_text (code_of_run fault)

-- why a run did not begin, by the fault of its book
abbrev pub of_opening : BookFault → RunFault
of_opening (book.BadSlip number) = run.BadSlip number
of_opening fault = run.WorkMemory
