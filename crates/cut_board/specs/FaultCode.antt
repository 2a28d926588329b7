-- The faults of boards in the program's list of faults.
use Rattle.cut_faults.specs.declared.code.FaultCode.{FaultCode}
use Rattle.cut_faults.specs.declared.code.FaultCode.TheVariants as code
use Rattle.cut_board.specs.declared.fault.SeatFault.{SeatFault}
use Rattle.cut_board.specs.declared.fault.SeatFault.TheVariants.{NoSlot, SeatFull}
use Rattle.cut_board.specs.declared.fault.Unfinished.{Unfinished}
use Rattle.cut_board.specs.declared.fault.Unfinished.TheVariants.{Memory, SeatMissing}

abbrev pub code_of_seat : SeatFault → FaultCode
code_of_seat NoSlot = code.NoSlot
code_of_seat SeatFull = code.SeatFull

abbrev pub code_of_unfinished : Unfinished → FaultCode
code_of_unfinished Memory = code.Memory
code_of_unfinished (SeatMissing board seats) = code.SeatMissing
