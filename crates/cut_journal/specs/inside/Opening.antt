-- What only the crate's own clauses and proofs cite, beside specs/Opening.antt.
use Rattle.std.specs.Prelude.{⊤}
use Rattle.cut_journal.specs.declared.fault.JournalFault.{JournalFault}
use Rattle.cut_journal.specs.declared.fault.JournalFault.TheVariants.{Memory, Disk}

-- the faults of a step that only reads
abbrev pub IsReadFault : JournalFault → Type 0
IsReadFault Memory = ⊤
IsReadFault Disk = ⊤
IsReadFault fault = ⊥
