-- The faults of sessions in the program's list of faults.
use Rattle.cut_faults.specs.declared.code.FaultCode.{FaultCode}
use Rattle.cut_faults.specs.declared.code.FaultCode.TheVariants as code
use Rattle.cut_messages.specs.FaultCode.{code_of_stream}
use Rattle.cut_session.specs.declared.session_end.SessionFault.{SessionFault}
use Rattle.cut_session.specs.declared.session_end.SessionFault.TheVariants as session

-- what ended a session
abbrev pub code_of_session : SessionFault → FaultCode
code_of_session session.Memory = code.WorkMemory
code_of_session session.Read = code.Read
code_of_session session.Truncated = code.Truncated
code_of_session session.TooManyRequests = code.TooManyRequests
code_of_session (session.Stream fault) = code_of_stream fault
