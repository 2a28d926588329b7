-- What only the crate's own clauses and proofs cite, beside specs/Serve.antt.
use Rattle.std.specs.Prelude.{⊤}
use Rattle.cut_commands.specs.declared.fault.CliFault.{CliFault}
use Rattle.cut_commands.specs.declared.fault.CliFault.TheVariants.{Socket, Write, WorkMemory, AuditMismatch}

-- why the threads of a server did not come to their end: a connection did not come, or memory or a thread was
-- refused
abbrev pub IsOfThreads : CliFault → Type 0
IsOfThreads Socket = ⊤
IsOfThreads WorkMemory = ⊤
IsOfThreads fault = ⊥

-- why a hall with all its passes was not closed
abbrev pub IsOfClosing : CliFault → Type 0
IsOfClosing WorkMemory = ⊤
IsOfClosing AuditMismatch = ⊤
IsOfClosing fault = ⊥

-- why a report was not written whole
abbrev pub IsOfWriting : CliFault → Type 0
IsOfWriting (Write fault) = ⊤
IsOfWriting fault = ⊥
