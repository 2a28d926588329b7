-- What only the crate's own clauses cite, beside specs/Memory.antt.
use Rattle.std.specs.Prelude.{◌≡◌, None, Some, Result, Ok, Err}
use Rattle.cut_files.specs.declared.files.OpenFault.{OpenFault}
use Rattle.cut_files.specs.declared.files.OpenFault.TheVariants.{Disk}
use Rattle.cut_files.specs.declared.memory_files.FileState.{FileState}
use Rattle.cut_files.specs.declared.memory_files.FileState.TheVariants.{Open, Held}
use Rattle.cut_files.specs.Memory.{disk_of}

-- a disk was taken out of what was kept, which is open then; or there was none, and all stays
abbrev pub TakesOut : {D : Type 0} → Result D OpenFault → FileState D → FileState D → Type 0
TakesOut (Ok disk) old new = (old ≡ Held disk) × (new ≡ Open)
TakesOut (Err fault) old new = (fault ≡ Disk) × (disk_of (Some old) ≡ None) × (new ≡ old)
