-- What only the crate's own clauses and proofs cite, beside specs/Migrate.antt.
use Rattle.std.specs.Prelude.{◌≡◌, ◌⊎◌, ◌-◌, ℕ, List, [], length, Result, Ok, Err, ⊤}
use Rattle.cut_faults.specs.Failures.{one_more}
use Rattle.cut_fields.specs.declared.version.Version.TheVariants.{One, Two}
use Rattle.cut_plan.specs.Failing.{version_of}
use Rattle.cut_plan.specs.Targets.{upgraded}
use Rattle.cut_plan.specs.Values.{Values}
use Rattle.cut_disks.specs.Log.{DiskLog, Goes}
use Rattle.cut_ledger.specs.declared.slip.Slip.{Slip}
use Rattle.cut_ledger.specs.Slips.{AreGood, IsFirstBad}
use Rattle.cut_journal.specs.declared.fault.JournalFault.TheVariants as journal
use Rattle.cut_journal.specs.Journal.{fault_counts}
use Rattle.cut_journal.specs.Opening.{IsNotClaimed, IsRead, IsRefused}
use Rattle.cut_journal.specs.declared.store_fault.StoreFault.TheVariants as store
use Rattle.cut_migration.specs.Migration.{AreTrueUpTo, IsFirstUntrue, first_moved}
use Rattle.cut_wires.specs.Log.{WireLog}
use Rattle.cut_commands.specs.Faults.{IsRefusalOfNew, IsRefusalOfOld}
use Rattle.cut_commands.specs.Migrate.{IsFree, all_moved, moved_text}
use Rattle.cut_commands.specs.NewStudy.{HasAll, HasPart, IsBegun, IsFilled}
use Rattle.cut_commands.specs.Run.{IsWritten}
use Rattle.cut_commands.specs.declared.fault.CliFault.{CliFault}
use Rattle.cut_commands.specs.declared.fault.CliFault.TheVariants.{Memory, Journal, Store}

-- why an old disk says no slips, and what is left of it
abbrev pub IsOldRefused : CliFault → Values → DiskLog → DiskLog → Type 0
IsOldRefused Memory v old new = Goes (λ n. n) (IsRead journal.Memory) old new
IsOldRefused (Journal fault) v old new = IsRefusalOfOld fault × Goes (fault_counts fault) (IsRefused v fault) old new
IsOldRefused fault v old new = ⊥

-- what the moving of slips to a journal that has none yet leaves, by how it ends
abbrev pub Fills : Result ℕ CliFault → Values → List Slip → DiskLog → DiskLog → Type 0
Fills (Ok n) v ss old new =
    (n ≡ length ss) × (version_of v.failing ≡ One) × AreGood v ss × AreTrueUpTo v ss (length ss)
    × Goes (λ n. n) (HasAll (upgraded v) (all_moved v ss)) old new
Fills (Err Memory) v ss old new = Goes (λ n. n) (HasPart (upgraded v) (all_moved v ss)) old new
Fills (Err (Store store.NotVersion1)) v ss old new =
    (version_of v.failing ≡ Two) × Goes (λ n. n) (HasAll (upgraded v) []) old new
Fills (Err (Store (store.BadSlip n))) v ss old new =
    (version_of v.failing ≡ One) × IsFirstBad v ss n × Goes (λ n. n) (HasAll (upgraded v) []) old new
Fills (Err (Store (store.Disagrees n))) v ss old new =
    (version_of v.failing ≡ One) × AreGood v ss × IsFirstUntrue v ss n
    × Goes (λ n. n) (HasAll (upgraded v) (first_moved v ss (n - 1))) old new
Fills (Err (Store store.Disk)) v ss old new =
    (version_of v.failing ≡ One) × AreGood v ss × Goes one_more (HasPart (upgraded v) (all_moved v ss)) old new
Fills (Err fault) v ss old new = ⊥

-- and to a disk on which that journal is made
abbrev pub EndsFilling : Result ℕ CliFault → Values → List Slip → DiskLog → DiskLog → Type 0
EndsFilling (Ok n) v ss old new =
    (n ≡ length ss) × (version_of v.failing ≡ One) × AreGood v ss × AreTrueUpTo v ss (length ss) × IsFree old
    × Goes (λ n. n) (IsFilled (upgraded v) (all_moved v ss)) old new
EndsFilling (Err Memory) v ss old new =
    Goes (λ n. n) (λ old new. new ≡ old) old new ⊎ Goes (λ n. n) (IsBegun (upgraded v) (all_moved v ss)) old new
EndsFilling (Err (Journal fault)) v ss old new =
    IsRefusalOfNew fault × Goes (fault_counts fault) (IsNotClaimed (upgraded v) fault) old new
EndsFilling (Err (Store store.NotVersion1)) v ss old new =
    (version_of v.failing ≡ Two) × IsFree old × Goes (λ n. n) (IsFilled (upgraded v) []) old new
EndsFilling (Err (Store (store.BadSlip n))) v ss old new =
    (version_of v.failing ≡ One) × IsFirstBad v ss n × IsFree old × Goes (λ n. n) (IsFilled (upgraded v) []) old new
EndsFilling (Err (Store (store.Disagrees n))) v ss old new =
    (version_of v.failing ≡ One) × AreGood v ss × IsFirstUntrue v ss n × IsFree old
    × Goes (λ n. n) (IsFilled (upgraded v) (first_moved v ss (n - 1))) old new
EndsFilling (Err (Store store.Disk)) v ss old new =
    (version_of v.failing ≡ One) × AreGood v ss × IsFree old
    × Goes one_more (IsBegun (upgraded v) (all_moved v ss)) old new
EndsFilling (Err fault) v ss old new = ⊥

-- how many slips were moved was written, or as many of the first bytes as are reported; or memory ran out before
abbrev pub WritesCount : ℕ → Result ⊤ CliFault → WireLog → WireLog → Type 0
WritesCount n (Err Memory) old new = new ≡ old
WritesCount n result old new = IsWritten (moved_text n) result old new
