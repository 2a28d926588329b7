-- The faults of rings in the program's list of faults.
use Rattle.cut_faults.specs.declared.code.FaultCode.{FaultCode}
use Rattle.cut_faults.specs.declared.code.FaultCode.TheVariants as code
use Rattle.cut_rings.specs.declared.fault.RingsFault.{RingsFault}
use Rattle.cut_rings.specs.declared.fault.RingsFault.TheVariants.{Memory, NotPermutation, TooFew}

-- a fault's place in that list
abbrev pub code_of : RingsFault → FaultCode
code_of Memory = code.Memory
code_of NotPermutation = code.NotPermutation
code_of TooFew = code.TooFew
