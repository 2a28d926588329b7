-- A disk in memory, as contracts see it.
use Rattle.std.specs.Prelude.{ℕ, List, fold}
use Rattle.cut_disks.specs.declared.call.DiskCall.{DiskCall}
use Rattle.cut_disks.specs.declared.call.DiskCall.TheVariants.{Write, Torn, Sync}
use Rattle.cut_disks.specs.State.{DiskState, fresh, written, begun, synced}

-- the bytes that it began with, the calls since then that changed something, and how many calls failed
pub record MemoryDiskValue : Type 0 where
  pub first : List ℕ
  pub calls : List DiskCall
  pub failures : ℕ

-- a disk after a call
abbrev pub after_call : DiskState → DiskCall → DiskState
after_call d (Write at put) = written d at put
after_call d (Torn at stop) = begun d at stop d.bytes
after_call d Sync = synced d

-- what is on the disk: what its calls made of the bytes that it began with
abbrev pub state_of : MemoryDiskValue → DiskState
state_of m = fold after_call (fresh m.first) m.calls
