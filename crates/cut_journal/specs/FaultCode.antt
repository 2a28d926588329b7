-- The faults of a journal, and those of the storing of slips, in the program's list of faults, and as they are printed.
use Rattle.std.specs.Prelude.{ℕ, List}
use Rattle.std.specs.Fmt.{decimal}
use Rattle.cut_faults.specs.declared.code.FaultCode.{FaultCode}
use Rattle.cut_faults.specs.declared.code.FaultCode.TheVariants as code
use Rattle.cut_faults.specs.Codes.{code_text, text_carrying}
use Rattle.cut_journal.specs.declared.fault.JournalFault.{JournalFault}
use Rattle.cut_journal.specs.declared.fault.JournalFault.TheVariants.{Memory, Disk, Broken, NoStudy, OtherPlan, Damaged}
use Rattle.cut_journal.specs.declared.fault.JournalFault.TheVariants.{Held}
use Rattle.cut_ledger.specs.declared.slips_fault.SlipsFault.{SlipsFault}
use Rattle.cut_ledger.specs.declared.slips_fault.SlipsFault.TheVariants as slips
use Rattle.cut_journal.specs.declared.store_fault.StoreFault.{StoreFault}
use Rattle.cut_journal.specs.declared.store_fault.StoreFault.TheVariants as store

abbrev pub code_of : JournalFault → FaultCode
code_of Memory = code.Memory
code_of Disk = code.Disk
code_of Broken = code.Broken
code_of NoStudy = code.NoStudy
code_of OtherPlan = code.OtherPlan
code_of (Damaged number) = code.Damaged
code_of Held = code.Held

-- number, name, and the number of the slip
abbrev pub fault_text : JournalFault → List ℕ
fault_text (Damaged number) = text_carrying code.Damaged (decimal number)
fault_text fault = code_text (code_of fault)

-- ---- slips that are stored

abbrev pub code_of_store : StoreFault → FaultCode
code_of_store store.Memory = code.Memory
code_of_store store.NotVersion1 = code.NotVersion1
code_of_store (store.BadSlip number) = code.BadSlip
code_of_store store.OtherPlan = code.OtherPlan
code_of_store (store.Disagrees number) = code.Disagrees
code_of_store store.WorkMemory = code.WorkMemory
code_of_store store.Broken = code.Broken
code_of_store store.Disk = code.Disk

-- number, name, and the number of the slip
abbrev pub store_fault_text : StoreFault → List ℕ
store_fault_text (store.BadSlip number) = text_carrying code.BadSlip (decimal number)
store_fault_text (store.Disagrees number) = text_carrying code.Disagrees (decimal number)
store_fault_text fault = code_text (code_of_store fault)

-- the fault for slips with which no ledger begins
abbrev pub fault_of_slips : SlipsFault → StoreFault
fault_of_slips slips.Memory = store.Memory
fault_of_slips (slips.BadSlip number) = store.BadSlip number
