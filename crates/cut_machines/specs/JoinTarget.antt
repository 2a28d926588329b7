-- What a join leaves on the disk of the new checkpoint.
use Rattle.std.specs.Prelude.{List, Result, ⊤}
use Rattle.cut_plan.specs.Values.{Values}
use Rattle.cut_disks.specs.State.{DiskState}
use Rattle.cut_ledger.specs.declared.slip.Slip.{Slip}
use Rattle.cut_shares.specs.join.Joined.{joined}
use Rattle.cut_journal.specs.declared.store_fault.StoreFault.TheVariants as store
use Rattle.cut_commands.specs.Faults.{IsRefusalOfNew}
use Rattle.cut_commands.specs.NewStudy.{LeavesNew}
use Rattle.cut_commands.specs.declared.fault.CliFault.{CliFault}
use Rattle.cut_commands.specs.declared.fault.CliFault.TheVariants.{Memory, Journal, Store}

-- by how the writing of the joined slips ended: all are there, or not
abbrev pub LeavesDisk : {T : Type 0} → Result T CliFault → Values → List Slip → DiskState → DiskState → Type 0
LeavesDisk result v slips old new = LeavesNew result v (joined v slips) old new

-- why not all were written: memory ran out, no journal was made, or its disk failed
abbrev pub StopsWriting : CliFault → Type 0
StopsWriting Memory = ⊤
StopsWriting (Journal fault) = IsRefusalOfNew fault
StopsWriting (Store store.Disk) = ⊤
StopsWriting fault = ⊥
