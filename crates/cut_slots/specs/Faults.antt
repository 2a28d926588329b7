-- The faults of halls in the program's list of faults.
use Rattle.cut_faults.specs.declared.code.FaultCode.{FaultCode}
use Rattle.cut_faults.specs.declared.code.FaultCode.TheVariants as code
use Rattle.cut_slots.specs.declared.next_row_fault.NextRowFault.{NextRowFault}
use Rattle.cut_slots.specs.declared.next_row_fault.NextRowFault.TheVariants as line
use Rattle.cut_slots.specs.declared.not_closed.NotClosed.{NotClosed}
use Rattle.cut_slots.specs.declared.not_closed.NotClosed.TheVariants as closing

abbrev pub code_of_line : NextRowFault → FaultCode
code_of_line line.AuditMismatch = code.AuditMismatch
code_of_line line.Checkpoint = code.Checkpoint
code_of_line line.WorkMemory = code.WorkMemory
code_of_line line.Stopped = code.Stopped

abbrev pub code_of_not_closed : {T : Type 0} → NotClosed T → FaultCode
code_of_not_closed closing.Memory = code.WorkMemory
code_of_not_closed (closing.AuditMismatch mismatch) = code.AuditMismatch
code_of_not_closed (closing.SeatMissing brought) = code.SeatMissing
