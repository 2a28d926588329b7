-- The fault of one append among several.
use Rattle.cut_journal.specs.declared.fault.JournalFault.{JournalFault}
use Rattle.cut_journal.specs.declared.fault.JournalFault.TheVariants as journal
use Rattle.cut_journal.specs.declared.store_fault.StoreFault.{StoreFault}
use Rattle.cut_journal.specs.declared.store_fault.StoreFault.TheVariants.{Broken, Disk}

-- the append of a slip has no other faults than these two
abbrev pub store_fault_of : JournalFault → StoreFault
store_fault_of journal.Disk = Disk
store_fault_of fault = Broken
