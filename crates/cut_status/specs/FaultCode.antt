-- The faults of a status in the program's list of faults, and as they are printed.
use Rattle.std.specs.Prelude.{ℕ, List}
use Rattle.std.specs.Fmt.{decimal}
use Rattle.cut_faults.specs.declared.code.FaultCode.{FaultCode}
use Rattle.cut_faults.specs.declared.code.FaultCode.TheVariants as code
use Rattle.cut_faults.specs.Codes.{code_text, text_carrying}
use Rattle.cut_status.specs.declared.fault.StatusFault.{StatusFault}
use Rattle.cut_status.specs.declared.fault.StatusFault.TheVariants.{Memory, NoStudy, Damaged, BadSlip}

abbrev pub code_of : StatusFault → FaultCode
code_of Memory = code.Memory
code_of NoStudy = code.NoStudy
code_of (Damaged number) = code.Damaged
code_of (BadSlip number) = code.BadSlip

-- number, name, and the number of the slip
abbrev pub fault_text : StatusFault → List ℕ
fault_text (Damaged number) = text_carrying code.Damaged (decimal number)
fault_text (BadSlip number) = text_carrying code.BadSlip (decimal number)
fault_text fault = code_text (code_of fault)
