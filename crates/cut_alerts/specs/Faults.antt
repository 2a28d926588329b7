-- The faults of roles in the program's list of faults.
use Rattle.cut_faults.specs.declared.code.FaultCode.{FaultCode}
use Rattle.cut_faults.specs.declared.code.FaultCode.TheVariants as code
use Rattle.cut_alerts.specs.declared.fault.RolesFault.{RolesFault}
use Rattle.cut_alerts.specs.declared.fault.RolesFault.TheVariants.{Memory, BadRole}

-- a fault's place in that list
abbrev pub code_of : RolesFault → FaultCode
code_of Memory = code.Memory
code_of BadRole = code.BadRole
