-- What a migration writes for a plan, by what the disk of its checkpoint holds, and what it leaves of both disks.
use Rattle.std.specs.Prelude.{◌≡◌, ◌≢◌, ◌⊎◌, ◌-◌, ℕ, true, List, [], length, codes, Option, Result, Ok, Err, ⊤}
use Rattle.std.specs.Borrow.{Bor}
use Rattle.cut_faults.specs.Failures.{one_more}
use Rattle.cut_fields.specs.declared.version.Version.TheVariants.{One, Two}
use Rattle.cut_plan.specs.Values.{Values}
use Rattle.cut_plan.specs.Failing.{version_of}
use Rattle.cut_plan.specs.Targets.{upgraded}
use Rattle.cut_disks.specs.State.{synced}
use Rattle.cut_disks.specs.Log.{DiskLog, Goes, IsKnown, on}
use Rattle.cut_files.specs.Place.{Place, MayNotOpen, OpensAs, closed, while_open}
use Rattle.cut_files.specs.declared.files.Mode.TheVariants.{Existing, Create}
use Rattle.cut_files.specs.declared.files.OpenFault.{OpenFault}
use Rattle.cut_ledger.specs.declared.slip.Slip.{Slip}
use Rattle.cut_ledger.specs.Slips.{AreGood, IsFirstBad}
use Rattle.cut_journal.specs.declared.fault.JournalFault.{JournalFault}
use Rattle.cut_journal.specs.declared.fault.JournalFault.TheVariants as journal
use Rattle.cut_journal.specs.Journal.{fault_counts}
use Rattle.cut_journal.specs.declared.store_fault.StoreFault.{StoreFault}
use Rattle.cut_journal.specs.declared.store_fault.StoreFault.TheVariants as store
use Rattle.cut_migration.specs.Migration.{AreTrueUpTo, IsFirstUntrue, first_moved}
use Rattle.cut_journal.specs.Opening.{IsNotClaimed, IsRead, IsRefused, is_unclaimed}
use Rattle.cut_journal.specs.Reading.{reading}
use Rattle.cut_commands.specs.Check.{number_line}
use Rattle.cut_commands.specs.Task.{Task}
use Rattle.cut_wires.specs.Log.{WireLog}
use Rattle.cut_commands.specs.Faults.{IsRefusalOfNew, IsRefusalOfOld, fault_of_files}
use Rattle.cut_commands.specs.NewStudy.{IsBegun, IsFilled}
use Rattle.cut_commands.specs.Run.{CommandAnswers, EndsRead, GivesPlanFrom, HasUnread, plan_place}
use Rattle.cut_commands.specs.declared.fault.CliFault.{CliFault}
use Rattle.cut_commands.specs.declared.fault.CliFault.TheVariants.{Memory, Plan, Read, Journal, Store}

-- the line that says how many slips were moved
unfoldable pub moved_text : ℕ → List ℕ
moved_text n = number_line (codes "migrated") n

-- ---- from one disk to another

-- the logs of both disks, before the migration and after it
pub record MigrateDisks : Type 0 where
  pub old : DiskLog
  pub old_back : DiskLog
  pub new : DiskLog
  pub new_back : DiskLog

-- the slips that a disk says for the plan, if its bytes are known
abbrev pub Holds : DiskLog → Values → List Slip → Type 0
Holds old v slips = IsKnown old → reading v (on old).bytes ≡ Ok slips

-- a disk that is unclaimed, if its bytes are known
abbrev pub IsFree : DiskLog → Type 0
IsFree new = IsKnown new → is_unclaimed (on new).bytes ≡ true

-- all slips of a list, moved
abbrev pub all_moved : Values → List Slip → List Slip
all_moved v slips = first_moved v slips (length slips)

-- the old disk said these slips, and is as before, but for a sync
pub record WasRead (d : MigrateDisks) (v : Values) (slips : List Slip) : Type 0 where
  pub held : Holds d.old v slips
  pub left : Goes (λ n. n) (λ old new. new ≡ synced old) d.old d.old_back

-- the new disk holds a study of the plan's upgrade with exactly these slips
abbrev pub HasNew : MigrateDisks → Values → List Slip → Type 0
HasNew d v slips = Goes (λ n. n) (IsFilled (upgraded v) slips) d.new d.new_back

-- a plan of version 1, the slips of whose study can be moved
pub record IsReady (d : MigrateDisks) (v : Values) (slips : List Slip) : Type 0 where
  pub version : version_of v.failing ≡ One
  pub read : WasRead d v slips
  pub free : IsFree d.new

-- they are all true ones, and `n` were moved
pub record HasMovedAll (d : MigrateDisks) (v : Values) (n : ℕ) : Type 0 where
  pub slips : List Slip
  pub ready : IsReady d v slips
  pub good : AreGood v slips
  pub true : AreTrueUpTo v slips (length slips)
  pub all : n ≡ length slips
  pub left : HasNew d v (all_moved v slips)

-- which is written
abbrev pub MigrateWrites : MigrateDisks → Values → List ℕ → Type 0
MigrateWrites d v whole = (n : ℕ) × HasMovedAll d v n × (whole ≡ moved_text n)

-- why they were not: the plan is of version 2, which is found once the old disk said its slips and the new one held
-- no study; or, if they could be, the first bad slip, the first that is not true, or the disk of the new checkpoint,
-- which failed. The new disk has a study with the slips before the one that stopped it; where its disk failed, with some
-- first ones
abbrev pub StopsBy : MigrateDisks → Values → StoreFault → Type 0
StopsBy d v store.NotVersion1 =
    (version_of v.failing ≡ Two) × ((slips : List Slip) × WasRead d v slips × IsFree d.new) × HasNew d v []
StopsBy d v (store.BadSlip n) =
    (slips : List Slip) × IsReady d v slips × IsFirstBad v slips n × HasNew d v []
StopsBy d v (store.Disagrees n) =
    (slips : List Slip) × IsReady d v slips × AreGood v slips × IsFirstUntrue v slips n
    × HasNew d v (first_moved v slips (n - 1))
StopsBy d v store.Disk =
    (slips : List Slip) × IsReady d v slips × AreGood v slips
    × Goes one_more (IsBegun (upgraded v) (all_moved v slips)) d.new d.new_back
StopsBy d v fault = ⊥

-- or why a checkpoint was not opened: the old one holds no study of the plan, or is damaged, and nothing was done to the
-- new one; the old one holds its slips, and the new one a study, or something else; or a disk failed
abbrev pub IsNotReady : MigrateDisks → Values → JournalFault → Type 0
IsNotReady d v fault =
    (IsRefusalOfOld fault × Goes (fault_counts fault) (IsRefused v fault) d.old d.old_back × (d.new_back ≡ d.new))
    ⊎ (IsRefusalOfNew fault × Goes (fault_counts fault) (IsNotClaimed (upgraded v) fault) d.new d.new_back
    × ((slips : List Slip) × WasRead d v slips))

abbrev pub MigrateFails : MigrateDisks → Values → CliFault → Type 0
MigrateFails d v (Journal fault) = IsNotReady d v fault
MigrateFails d v (Store fault) = StopsBy d v fault
MigrateFails d v fault = ⊥

abbrev pub migrate_task : MigrateDisks → Task
migrate_task d = record { answers = MigrateWrites d; fails = MigrateFails d }

-- what is left if memory ran out once the plan was read: the old disk is as before, but for a sync; the new one is too,
-- or has some first ones of the moved slips
pub record LeavesSome (d : MigrateDisks) (v : Values) : Type 0 where
  pub old : Goes (λ n. n) (IsRead journal.Memory) d.old d.old_back
  pub new : Goes (λ n. n) (λ old new. new ≡ old) d.new d.new_back
      ⊎ ((slips : List Slip) × WasRead d v slips
      × Goes (λ n. n) (IsBegun (upgraded v) (all_moved v slips)) d.new d.new_back)

-- how the steps between the reading of a plan and the answer end: all slips were moved; memory ran out; or as the task
-- may fail
abbrev pub EndsMove : MigrateDisks → Values → Result ℕ CliFault → Type 0
EndsMove d v (Ok n) = HasMovedAll d v n
EndsMove d v (Err Memory) = LeavesSome d v
EndsMove d v (Err fault) = MigrateFails d v fault

-- nothing was done to either disk
abbrev pub AreStill : MigrateDisks → Type 0
AreStill d = (d.old_back ≡ d.old) × (d.new_back ≡ d.new)

-- what is left of them at the other ends: they are as before if no plan was read; and if memory ran out, unless a plan
-- was read
abbrev pub LeavesStill : Option Place → MigrateDisks → WireLog → WireLog → Result ⊤ CliFault → Type 0
LeavesStill plan d old new (Err Read) = AreStill d
LeavesStill plan d old new (Err (Plan refusal)) = AreStill d
LeavesStill plan d old new (Err Memory) = AreStill d ⊎ ((v : Values) × (GivesPlanFrom plan (Ok v) old new × LeavesSome d v))
LeavesStill plan d old new result = ⊤

-- how a migration ends over both disks, by where its plan is read from
pub record Migrates (plan : Option Place) (d : MigrateDisks) (old new : WireLog) (result : Result ⊤ CliFault)
    : Type 0 where
  pub command : EndsRead (CommandAnswers (migrate_task d)) plan old new result
  pub other : LeavesStill plan d old new result

-- or the plan's file was not read, and nothing was done to them
abbrev pub MigratesFrom : Option Place → MigrateDisks → WireLog → WireLog → Result ⊤ CliFault → Type 0
MigratesFrom plan d old new result = Migrates plan d old new result ⊎ (AreStill d × HasUnread plan result old new)

-- ---- from one file to another

-- both files were opened, and shut with what their disks hold. A plan's file is read while both are open
pub record HasMigrated (from to : List ℕ) (plan : Option (Bor (List ℕ))) (before after : List ℕ → Place)
    (old new : WireLog) (result : Result ⊤ CliFault) : Type 0 where
  pub disks : MigrateDisks
  pub source : OpensAs Existing disks.old (before from)
  pub target : OpensAs Create disks.new (before to)
  pub ends : MigratesFrom (plan_place (while_open to (while_open from before)) plan) disks old new result
  pub source_after : after from ≡ closed disks.old_back (before from)
  pub target_after : after to ≡ closed disks.new_back (before to)

-- how a migration ends from the file at one path to that at another: over what stood at both; or one of them was not
-- opened, nothing was read or written, and each path has what it had. The same path can't be opened twice
abbrev pub EndsMigrate : List ℕ → List ℕ → Option (Bor (List ℕ)) → (List ℕ → Place) → (List ℕ → Place) → WireLog
    → WireLog → Result ⊤ CliFault → Type 0
EndsMigrate from to plan before after old new result =
    HasMigrated from to plan before after old new result
    ⊎ ((fault : OpenFault) × ((MayNotOpen Existing fault (before from)
    ⊎ ((from ≡ to) ⊎ MayNotOpen Create fault (before to))) × (result ≡ Err (fault_of_files fault)) × (new ≡ old)
    × ((path : List ℕ) → after path ≡ before path)))

-- at each path but these two there is what there was
abbrev pub StaysBeside : List ℕ → List ℕ → (List ℕ → Place) → (List ℕ → Place) → Type 0
StaysBeside from to before after = (other : List ℕ) → other ≢ from → other ≢ to → after other ≡ before other
