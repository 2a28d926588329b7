-- What only the crate's own clauses and proofs cite, beside specs/JoinTarget.antt.
use Rattle.std.specs.Prelude.{◌≡◌, ℕ, List, Result, Ok, Err, length}
use Rattle.cut_faults.specs.Failures.{one_more}
use Rattle.cut_plan.specs.Values.{Values}
use Rattle.cut_disks.specs.Log.{DiskLog, Goes}
use Rattle.cut_ledger.specs.declared.slip.Slip.{Slip}
use Rattle.cut_journal.specs.declared.store_fault.StoreFault.TheVariants as store
use Rattle.cut_shares.specs.join.Joined.{joined}
use Rattle.cut_commands.specs.NewStudy.{HasAll, HasPart}
use Rattle.cut_commands.specs.declared.fault.CliFault.{CliFault}
use Rattle.cut_commands.specs.declared.fault.CliFault.TheVariants.{Memory, Store}

-- what the writing of the joined slips to a journal that has none yet leaves, by how it ends: all of them; or some first
-- ones, as memory ran out or the disk failed
abbrev pub FillsJoined : Result ℕ CliFault → Values → List Slip → DiskLog → DiskLog → Type 0
FillsJoined (Ok n) v ss old new = (n ≡ length (joined v ss)) × Goes (λ k. k) (HasAll v (joined v ss)) old new
FillsJoined (Err Memory) v ss old new = Goes (λ k. k) (HasPart v (joined v ss)) old new
FillsJoined (Err (Store store.Disk)) v ss old new = Goes one_more (HasPart v (joined v ss)) old new
FillsJoined (Err fault) v ss old new = ⊥
