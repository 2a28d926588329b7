-- The fault of a file of the system that is not read.
use Rattle.cut_files.specs.declared.files.OpenFault.{OpenFault}
use Rattle.cut_files.specs.declared.files.OpenFault.TheVariants.{Memory, Disk}
use Rattle.std.specs.declared.io.ErrorKind.{ErrorKind}
use Rattle.std.specs.declared.io.ErrorKind.TheVariants.{OutOfMemory}

-- the fault of a file by the kind of the system's error: `Memory` if memory ran out, else `Disk`
abbrev pub of_kind : ErrorKind → OpenFault
of_kind OutOfMemory = Memory
of_kind kind = Disk
