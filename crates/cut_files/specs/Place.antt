-- What is known of each path, and how the calls that open, close and read files change it.
use Rattle.std.specs.Prelude.{◌≡◌, ◌≢◌, ℕ, List, [], take, Some, ⊤, if◌then◌else◌}
use Rattle.std.specs.Str.{bytes_eq}
use Rattle.cut_disks.specs.Log.{DiskLog, Knows}
use Rattle.cut_disks.specs.State.{fresh}
use Rattle.cut_files.specs.declared.files.Mode.{Mode}
use Rattle.cut_files.specs.declared.files.Mode.TheVariants.{Existing, Create}
use Rattle.cut_files.specs.declared.files.OpenFault.{OpenFault}
use Rattle.cut_files.specs.declared.files.OpenFault.TheVariants.{Memory, Disk}

-- what is known of a path: nothing; that nothing stands there; that what stands there can't be opened, like a folder;
-- that the file there is open; or that a file stands there that is not open, and the log of its disk
pub data Place : Type 0 where
  Unknown : Place
  Absent : Place
  Refused : Place
  Open : Place
  Holds : (log : DiskLog) → Place

-- the log of a new file: it is empty, and no call of it failed
abbrev pub new_file : DiskLog
new_file = record { state = Some (fresh []); failed = 0 }

-- what stands at a path opens as a disk with this log. An existing file has the log that it had. A file is created if
-- nothing is, but only by `Create`. What can't be opened, or is open already, is never opened
abbrev pub OpensAs : Mode → DiskLog → Place → Type 0
OpensAs mode disk Unknown = ⊤
OpensAs Existing disk Absent = ⊥
OpensAs Create disk Absent = disk ≡ new_file
OpensAs mode disk Refused = ⊥
OpensAs mode disk Open = ⊥
OpensAs mode disk (Holds log) = disk ≡ log

-- what stands at a path once a file was opened there
abbrev pub opened : Place → Place
opened Unknown = Unknown
opened place = Open

-- what stands at each path while the file at this one is open
abbrev pub while_open : List ℕ → (List ℕ → Place) → List ℕ → Place
while_open path places other = if bytes_eq other path then opened (places other) else places other

-- a file was opened, and its disk has this log: what stood at its path before, and what stands there now
abbrev pub IsOpened : Mode → DiskLog → Place → Place → Type 0
IsOpened mode disk old new = OpensAs mode disk old × (new ≡ opened old)

-- what stood at a path that was not opened: anything if memory ran out. Else it is not known, can't be opened or is
-- open already; or nothing stood there, and the file was to exist
abbrev pub MayNotOpen : Mode → OpenFault → Place → Type 0
MayNotOpen mode Memory place = ⊤
MayNotOpen mode Disk Unknown = ⊤
MayNotOpen Existing Disk Absent = ⊤
MayNotOpen Create Disk Absent = ⊥
MayNotOpen mode Disk Refused = ⊤
MayNotOpen mode Disk Open = ⊤
MayNotOpen mode Disk (Holds log) = ⊥

-- what stands at a path once a disk with this log was given back
abbrev pub closed : DiskLog → Place → Place
closed disk Unknown = Unknown
closed disk place = Holds disk

-- a disk can be given back to a path that is open or unknown
abbrev pub IsOpen : Place → Type 0
IsOpen Unknown = ⊤
IsOpen Open = ⊤
IsOpen place = ⊥

-- nothing changed at the other paths
abbrev pub StaysElsewhere : List ℕ → (List ℕ → Place) → (List ℕ → Place) → Type 0
StaysElsewhere path old new = (other : List ℕ) → other ≢ path → new other ≡ old other

-- bytes that were read at a path: a part of the file's bytes, if these are known. Nothing is known of an open file, and
-- none are read if there is no file
abbrev pub IsPartOf : (List ℕ → List ℕ) → List ℕ → Place → Type 0
IsPartOf part bytes Unknown = ⊤
IsPartOf part bytes Absent = ⊥
IsPartOf part bytes Refused = ⊥
IsPartOf part bytes Open = ⊤
IsPartOf part bytes (Holds log) = Knows log (λ d. bytes ≡ part d.bytes)

-- they are all of them
abbrev pub IsContent : List ℕ → Place → Type 0
IsContent bytes place = IsPartOf (λ all. all) bytes place

-- they are the first ones, up to a limit
abbrev pub IsStart : ℕ → List ℕ → Place → Type 0
IsStart limit bytes place = IsPartOf (take limit) bytes place

-- what stands at a path that was not read: anything if memory ran out. Else not a file that is closed
abbrev pub MayNotRead : OpenFault → Place → Type 0
MayNotRead Memory place = ⊤
MayNotRead Disk Unknown = ⊤
MayNotRead Disk Absent = ⊤
MayNotRead Disk Refused = ⊤
MayNotRead Disk Open = ⊤
MayNotRead Disk (Holds log) = ⊥
