-- What only the crate's own clauses and proofs cite, beside specs/Memory.antt.
use Rattle.std.specs.Prelude.{◌≡◌, ◌++◌, [], ◌∷◌, Result, Ok, Err, ⊤}
use Rattle.cut_faults.specs.Failures.{one_more}
use Rattle.cut_disks.specs.declared.call.DiskCall.{DiskCall}
use Rattle.cut_disks.specs.Memory.{MemoryDiskValue}

-- the same with a call more, and with a failure more
abbrev pub with_call : MemoryDiskValue → DiskCall → MemoryDiskValue
with_call m call = record m { calls = m.calls ++ call ∷ [] }

abbrev pub with_failure : MemoryDiskValue → MemoryDiskValue
with_failure m = record m { failures = one_more m.failures }

-- a call was made, or it failed as memory ran out and did nothing
abbrev pub Logs : {E : Type 0} → Result ⊤ E → DiskCall → MemoryDiskValue → MemoryDiskValue → Type 0
Logs (Ok done) call old new = new ≡ with_call old call
Logs (Err fault) call old new = new ≡ with_failure old
