-- The program's faults: their places in the list of faults, their lines, and how the program ends.
use Rattle.std.specs.Prelude.{ℕ, ◌++◌, List, [], ◌∷◌, codes, Option, Some, None, ⊤}
use Rattle.std.specs.Fmt.{decimal}
use Rattle.cut_faults.specs.declared.code.FaultCode.{FaultCode}
use Rattle.cut_faults.specs.declared.code.FaultCode.TheVariants as code
use Rattle.cut_faults.specs.Codes as codes_of
use Rattle.cut_plan.specs.declared.refusal.PlanFault.{PlanFault}
use Rattle.cut_plan.specs.declared.refusal.PlanFault.TheVariants as plan
use Rattle.cut_fields.specs.declared.field.Field.{Field}
use Rattle.cut_fields.specs.Fields.{name_of as field_name}
use Rattle.cut_plan.specs.Refusals.{code_of_refusal, field_of_refusal}
use Rattle.cut_journal.specs.declared.fault.JournalFault.{JournalFault}
use Rattle.cut_journal.specs.declared.fault.JournalFault.TheVariants as journal
use Rattle.cut_journal.specs.FaultCode as journal_codes
use Rattle.cut_journal.specs.declared.store_fault.StoreFault.{StoreFault}
use Rattle.cut_journal.specs.declared.store_fault.StoreFault.TheVariants as store
use Rattle.cut_commands.specs.declared.fault.CliFault.{CliFault}
use Rattle.cut_pool.specs.declared.run_fault.RunFault.{RunFault}
use Rattle.cut_pool.specs.declared.run_fault.RunFault.TheVariants as study
use Rattle.cut_files.specs.declared.files.OpenFault.{OpenFault}
use Rattle.cut_files.specs.declared.files.OpenFault.TheVariants as files
use Rattle.cut_status.specs.declared.fault.StatusFault.{StatusFault}
use Rattle.cut_status.specs.declared.fault.StatusFault.TheVariants as status
use Rattle.cut_commands.specs.declared.fault.CliFault.TheVariants.{Memory, Plan, Read, Socket, Asked, Write, Journal}
use Rattle.cut_commands.specs.declared.fault.CliFault.TheVariants.{Folder, BadSlip, Store, Checkpoint, WorkMemory}
use Rattle.cut_commands.specs.declared.fault.CliFault.TheVariants.{AuditMismatch}
use Rattle.cut_messages.specs.FaultCode.{number_of_ask}

-- a fault's number in the program's list of faults, or what a server reported
abbrev pub number_of : CliFault → ℕ
number_of Memory = codes_of.number_of code.Memory
number_of (Plan refusal) = codes_of.number_of (code_of_refusal refusal)
number_of Read = codes_of.number_of code.Read
number_of Socket = codes_of.number_of code.Read
number_of (Asked fault) = number_of_ask fault
number_of (Write fault) = codes_of.number_of code.Write
number_of (Journal fault) = codes_of.number_of (journal_codes.code_of fault)
number_of Folder = codes_of.number_of code.Disk
number_of (BadSlip number) = codes_of.number_of code.BadSlip
number_of (Store fault) = codes_of.number_of (journal_codes.code_of_store fault)
number_of Checkpoint = codes_of.number_of code.Checkpoint
number_of WorkMemory = codes_of.number_of code.WorkMemory
number_of AuditMismatch = codes_of.number_of code.AuditMismatch

-- the fault in that list, if it is there
abbrev pub code_of : CliFault → Option FaultCode
code_of fault = codes_of.code_numbered (number_of fault)

-- its name, `Unknown` if it is not
abbrev pub name_of : CliFault → List ℕ
name_of fault = codes_of.name_numbered (number_of fault)

-- the status with which the program ends
abbrev pub status_of : CliFault → ℕ
status_of fault = codes_of.status_numbered (number_of fault)

-- a blank and a field's name, where there is a field
abbrev pub field_words : Option Field → List ℕ
field_words None = []
field_words (Some field) = 32 ∷ field_name field

-- what a fault carries, after a blank
abbrev pub carried_by : CliFault → List ℕ
carried_by (Plan refusal) = field_words (field_of_refusal refusal)
carried_by (Write fault) = 32 ∷ decimal fault.sent
carried_by (Journal (journal.Damaged number)) = 32 ∷ decimal number
carried_by (BadSlip number) = 32 ∷ decimal number
carried_by (Store (store.BadSlip number)) = 32 ∷ decimal number
carried_by (Store (store.Disagrees number)) = 32 ∷ decimal number
carried_by fault = []

-- the fault as it is printed
abbrev pub fault_text : CliFault → List ℕ
fault_text fault = codes "cutlab: fault " ++ (codes_of.text_with (number_of fault) (name_of fault) ++ carried_by fault)

-- its line
abbrev pub fault_line : CliFault → List ℕ
fault_line fault = fault_text fault ++ 10 ∷ []

-- the fault of the program if a plan was not made
abbrev pub fault_of_plan : PlanFault → CliFault
fault_of_plan plan.Memory = Memory
fault_of_plan (plan.Refused refusal) = Plan refusal

-- the fault of the program if a journal was not opened
abbrev pub fault_of_journal : JournalFault → CliFault
fault_of_journal journal.Memory = Memory
fault_of_journal fault = Journal fault

-- the faults of a journal by which an old checkpoint is refused, and those by which a new one is; that memory ran out is
-- a fault of its own
abbrev pub IsRefusalOfOld : JournalFault → Type 0
IsRefusalOfOld journal.Disk = ⊤
IsRefusalOfOld journal.NoStudy = ⊤
IsRefusalOfOld journal.OtherPlan = ⊤
IsRefusalOfOld (journal.Damaged number) = ⊤
IsRefusalOfOld fault = ⊥

abbrev pub IsRefusalOfNew : JournalFault → Type 0
IsRefusalOfNew journal.Disk = ⊤
IsRefusalOfNew journal.Held = ⊤
IsRefusalOfNew journal.NoStudy = ⊤
IsRefusalOfNew fault = ⊥

-- the fault of the program if slips were not all stored
abbrev pub fault_of_store : StoreFault → CliFault
fault_of_store store.Memory = Memory
fault_of_store fault = Store fault

-- the fault of the program if a study was not run to its end
abbrev pub fault_of_study : RunFault → CliFault
fault_of_study (study.BadSlip number) = BadSlip number
fault_of_study study.Checkpoint = Checkpoint
fault_of_study (study.Write fault) = Write fault
fault_of_study study.WorkMemory = WorkMemory
fault_of_study study.AuditMismatch = AuditMismatch

-- the fault of the program if a file was not opened or not read
abbrev pub fault_of_files : OpenFault → CliFault
fault_of_files files.Memory = Memory
fault_of_files files.Disk = Journal journal.Disk

-- the fault of the program if a checkpoint has no status
abbrev pub fault_of_status : StatusFault → CliFault
fault_of_status status.Memory = Memory
fault_of_status status.NoStudy = Journal journal.NoStudy
fault_of_status (status.Damaged number) = Journal (journal.Damaged number)
fault_of_status (status.BadSlip number) = BadSlip number
