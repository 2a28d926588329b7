-- What is known of a disk, in one log: each call leads from one log to the next.
use Rattle.std.specs.Prelude.{◌≡◌, ◌+◌, ℕ, Bool, true, List, [], length, slice_range, Option, is_some, unwrap_or, Result}
use Rattle.std.specs.Prelude.{IfOk, OnOk, ⊤}
use Rattle.cut_disks.specs.State.{DiskState, IsImage, fresh}

-- what is on the disk, if that is known, and how many of its calls failed. If it is known, the disk does what its calls
-- say, and a crash leaves one of its images. It is not known for a file of the system
pub record DiskLog : Type 0 where
  pub state : Option DiskState
  pub failed : ℕ

-- whether it is known what is on the disk
abbrev pub is_known : DiskLog → Bool
is_known l = is_some l.state

abbrev pub IsKnown : DiskLog → Type 0
IsKnown l = is_known l ≡ true

-- what is on a disk of which that is known
abbrev pub on : DiskLog → DiskState
on l = unwrap_or l.state (fresh [])

-- a fact about what is on the disk, if that is known
abbrev pub Knows : DiskLog → (DiskState → Type 0) → Type 0
Knows l P = IsKnown l → P (on l)

-- from one log to a later one: as much is known as before; if it is known, the disk went from one state to a related
-- one; and failed calls were counted by a rule
pub record Goes (count : ℕ → ℕ) (R : DiskState → DiskState → Type 0) (old new : DiskLog) : Type 0 where
  pub known : is_known new ≡ is_known old
  pub state : IsKnown old → R (on old) (on new)
  pub faults : new.failed ≡ count old.failed

-- ---- what each call does

-- a step that only reads shows a fact about the bytes
abbrev pub Shows : (List ℕ → Type 0) → DiskState → DiskState → Type 0
Shows P old new = P old.bytes × (new ≡ old)

-- the length is that of the bytes
abbrev pub Measures : {E : Type 0} → Result ℕ E → DiskState → DiskState → Type 0
Measures result = Shows (λ bytes. IfOk result (λ n. n ≡ length bytes))

-- as many bytes are read from a place on as fit; and what reads give is one of the contents that a crash could leave
abbrev pub ReadsDisk : {E : Type 0} → Result ⊤ E → ℕ → List ℕ → List ℕ → DiskState → DiskState → Type 0
ReadsDisk result at into read old new =
    OnOk result (read ≡ slice_range old.bytes at (at + length into)) × IsImage old.stable old.bytes × (new ≡ old)
