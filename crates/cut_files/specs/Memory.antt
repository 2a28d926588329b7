-- Files in memory: what is kept of each path, and what stands there.
use Rattle.std.specs.Prelude.{◌≡◌, ◌≢◌, ℕ, List, Option, None, Some}
use Rattle.std.specs.BTreeMap.{get_by_text}
use Rattle.cut_disks.specs.Log.{DiskLog}
use Rattle.cut_files.specs.declared.memory_files.FileState.{FileState}
use Rattle.cut_files.specs.declared.memory_files.FileState.TheVariants as kept
use Rattle.cut_files.specs.declared.memory_files.MemoryFiles.{MemoryFiles}
use Rattle.cut_files.specs.Place.{Place, Absent, Refused, Open, Holds}

module _ {D : Type 0} where
  -- what stands at a path in memory, if anything does
  abbrev pub kept_at : MemoryFiles D → List ℕ → Option (FileState D)
  kept_at files path = get_by_text files.files path

  -- nothing changed at the other paths
  abbrev pub KeepsElsewhere : List ℕ → MemoryFiles D → MemoryFiles D → Type 0
  KeepsElsewhere path old new = (other : List ℕ) → other ≢ path → kept_at new other ≡ kept_at old other

  -- the disk of a file that is not open
  abbrev pub disk_of : Option (FileState D) → Option D
  disk_of (Some (kept.Held disk)) = Some disk
  disk_of other = None

  -- what is known of a path, by what stands there in memory and the logs of disks
  abbrev pub place_of : (D → DiskLog) → Option (FileState D) → Place
  place_of log None = Absent
  place_of log (Some kept.Refused) = Refused
  place_of log (Some kept.Open) = Open
  place_of log (Some (kept.Held disk)) = Holds (log disk)

  -- what stands at each path
  abbrev pub place_at : (D → DiskLog) → MemoryFiles D → List ℕ → Place
  place_at log files path = place_of log (kept_at files path)
