-- What only the crate's own clauses and proofs cite, beside specs/Faulty.antt.
use Rattle.std.specs.Prelude.{◌≡◌, ◌==◌, ◌-◌, ◌&&◌, ◌⊎◌, ℕ, Bool, true, false, ◌+◌, List, length, Result, IsOk, IsErr}
use Rattle.std.specs.Prelude.{⊤}
use Rattle.cut_disks.specs.declared.call.DiskCall.{DiskCall}
use Rattle.cut_disks.specs.declared.call.DiskCall.TheVariants.{Write, Torn}
use Rattle.cut_disks.specs.declared.faulty_disk.Tear.{Tear}
use Rattle.cut_disks.specs.declared.faulty_disk.Tear.TheVariants.{Nothing, Everything}
use Rattle.cut_disks.specs.Memory.{MemoryDiskValue}
use Rattle.cut_disks.specs.inside.Memory.{with_call, with_failure, Logs}
use Rattle.cut_disks.specs.Faulty.{FaultyDiskValue}

-- a call was counted, once the disk was armed, and each one after that; the rest is as before
abbrev pub Counts : FaultyDiskValue → FaultyDiskValue → Type 0
Counts old new =
    (new.tear ≡ old.tear)
    × (((new.counting ≡ true) × (new.fail_in ≡ old.fail_in - 1))
    ⊎ ((old.counting ≡ false) × (new.counting ≡ false) × (new.fail_in ≡ old.fail_in)))

-- whether the call that led from one to the other was the failing one
abbrev pub was_due : FaultyDiskValue → FaultyDiskValue → Bool
was_due old new = new.counting && (old.fail_in == 1)

-- a call that changes nothing: it fails if it is the failing one, and else it doesn't
abbrev pub Looks : {T E : Type 0} → Result T E → Bool → MemoryDiskValue → MemoryDiskValue → Type 0
Looks result true old new = IsErr result × (new ≡ with_failure old)
Looks result false old new = IsOk result × (new ≡ old)

-- a failing call: it failed, and did what is said or nothing
abbrev pub FailsWith : DiskCall → MemoryDiskValue → MemoryDiskValue → Type 0
FailsWith call old new = (new ≡ with_failure (with_call old call)) ⊎ (new ≡ with_failure old)

-- what a failing write leaves
abbrev pub torn_call : Tear → ℕ → List ℕ → DiskCall
torn_call Nothing at put = Torn at (at + length put)
torn_call Everything at put = Write at put

-- a write: one in memory, except for the failing one, whose span was begun, unless memory ran out
abbrev pub FaultyWrites : {E : Type 0} → Result ⊤ E → Tear → Bool → ℕ → List ℕ → MemoryDiskValue → MemoryDiskValue
    → Type 0
FaultyWrites result tear true at put old new = IsErr result × FailsWith (torn_call tear at put) old new
FaultyWrites result tear false at put old new = Logs result (Write at put) old new

-- a sync: one in memory, except for the failing one, which does nothing
abbrev pub FaultySyncs : {E : Type 0} → Result ⊤ E → Bool → DiskCall → MemoryDiskValue → MemoryDiskValue → Type 0
FaultySyncs result true call old new = IsErr result × (new ≡ with_failure old)
FaultySyncs result false call old new = Logs result call old new
