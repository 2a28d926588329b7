-- Whether the slips on a disk are those that their trials give. Of a file no clause can say it; so it is the one
-- premise of what is claimed of studies that go on from one.
use Rattle.std.specs.Prelude.{◌≡◌, List, Option, Some, None, Ok, ⊤}
use Rattle.cut_plan.specs.Values.{Values}
use Rattle.cut_disks.specs.Log.{DiskLog, IsKnown, on}
use Rattle.cut_ledger.specs.declared.slip.Slip.{Slip}
use Rattle.cut_ledger.specs.World.{AreTrue}
use Rattle.cut_journal.specs.Reading.{reading}

-- what is on a disk, if there is one, is known, and the slips that are read from it are true ones of a plan
abbrev pub IsTrueStore : {D : Type 0} → (D → DiskLog) → Values → Option D → Type 0
IsTrueStore log v None = ⊤
IsTrueStore log v (Some disk) =
    IsKnown (log disk) × ((slips : List Slip) → reading v (on (log disk)).bytes ≡ Ok slips → AreTrue v slips)
