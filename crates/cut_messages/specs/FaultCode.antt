-- The faults of streams and of askings in the program's list of faults.
use Rattle.std.specs.Prelude.{ℕ, List}
use Rattle.cut_faults.specs.Codes.{number_of, name_numbered, text_with}
use Rattle.cut_faults.specs.declared.code.FaultCode.{FaultCode}
use Rattle.cut_faults.specs.declared.code.FaultCode.TheVariants as code
use Rattle.cut_messages.specs.declared.fault.StreamFault.{StreamFault}
use Rattle.cut_messages.specs.declared.fault.StreamFault.TheVariants as stream
use Rattle.cut_messages.specs.declared.fault.EndFault.{EndFault}
use Rattle.cut_messages.specs.declared.fault.EndFault.TheVariants as end
use Rattle.cut_messages.specs.declared.fault.AskFault.{AskFault}
use Rattle.cut_messages.specs.declared.fault.AskFault.TheVariants as ask

abbrev pub code_of_stream : StreamFault → FaultCode
code_of_stream stream.BadKind = code.BadKind
code_of_stream stream.TooLong = code.TooLong
code_of_stream stream.BadLength = code.BadLength

abbrev pub code_of_end : EndFault → FaultCode
code_of_end (end.Stream fault) = code_of_stream fault
code_of_end end.Truncated = code.Truncated

-- the number of what ended an asking: of the program's list, or as the server reported it
abbrev pub number_of_ask : AskFault → ℕ
number_of_ask ask.Memory = number_of code.WorkMemory
number_of_ask ask.PlanTooLong = number_of code.PlanTooLong
number_of_ask ask.Request = number_of code.Write
number_of_ask ask.Output = number_of code.Write
number_of_ask ask.Read = number_of code.Read
number_of_ask ask.Endless = number_of code.Read
number_of_ask ask.Truncated = number_of code.Truncated
number_of_ask (ask.Stream fault) = number_of (code_of_stream fault)
number_of_ask (ask.Reported number) = number

-- number and name, `Unknown` if the list has none
abbrev pub ask_fault_text : AskFault → List ℕ
ask_fault_text fault = text_with (number_of_ask fault) (name_numbered (number_of_ask fault))
