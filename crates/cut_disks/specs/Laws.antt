-- Laws of disks.
use Rattle.std.specs.Prelude.{ℕ, ◌+◌, List, length}
use Rattle.cut_disks.specs.Memory.{MemoryDiskValue, state_of}
use Rattle.cut_disks.specs.State.{IsImage, IsTorn, overwritten}

-- what reads give of a disk in memory is one of the contents that a crash could leave now
abbrev pub ReadsAreImages : Type 0
ReadsAreImages = (m : MemoryDiskValue) → IsImage (state_of m).stable (state_of m).bytes

-- a write changes only its span
abbrev pub WritesStayInSpan : Type 0
WritesStayInSpan = (bytes put : List ℕ) (at : ℕ) → IsTorn at (at + length put) bytes (overwritten bytes at put)
