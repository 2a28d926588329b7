-- A disk in memory that fails at a given call, as contracts see it.
use Rattle.std.specs.Prelude.{ℕ, Bool}
use Rattle.cut_disks.specs.declared.faulty_disk.Tear.{Tear}
use Rattle.cut_disks.specs.Memory.{MemoryDiskValue}

-- the disk in memory, whether calls are counted, how many calls from now the failing one is (0 if none will fail), and
-- what it leaves if it is a write
pub record FaultyDiskValue : Type 0 where
  pub memory : MemoryDiskValue
  pub counting : Bool
  pub fail_in : ℕ
  pub tear : Tear
