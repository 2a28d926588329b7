-- The faults of pieces in the program's list of faults.
use Rattle.cut_faults.specs.declared.code.FaultCode.{FaultCode}
use Rattle.cut_faults.specs.declared.code.FaultCode.TheVariants as code
use Rattle.cut_trial.specs.declared.fault.TrialFault.{TrialFault}
use Rattle.cut_trial.specs.declared.fault.TrialFault.TheVariants.{Memory, BadPiece}

-- the code of a fault
abbrev pub code_of : TrialFault → FaultCode
code_of Memory = code.Memory
code_of BadPiece = code.BadPiece
