-- What a join of checkpoints writes for a plan, by what its files hold, and what it leaves of them and of the new one.
use Rattle.std.specs.Prelude.{◌≡◌, ◌⊎◌, ◌≤◌, ◌++◌, ℕ, List, ◌∷◌, [], length, codes, Option, Some, None, Result}
use Rattle.std.specs.Prelude.{Ok, Err, ⊤}
use Rattle.std.specs.Borrow.{Bor}
use Rattle.std.specs.Fmt.{decimal}
use Rattle.cut_plan.specs.Cells.{trial_count}
use Rattle.cut_plan.specs.Values.{Values}
use Rattle.cut_disks.specs.Log.{DiskLog, Goes, is_known}
use Rattle.cut_files.specs.Place.{Place, MayNotOpen, OpensAs, StaysElsewhere, closed, opened}
use Rattle.cut_files.specs.declared.files.Mode.TheVariants.{Create}
use Rattle.cut_files.specs.declared.files.OpenFault.{OpenFault}
use Rattle.cut_wires.specs.Log.{WireLog}
use Rattle.cut_ledger.specs.declared.slip.Slip.{Slip}
use Rattle.cut_ledger.specs.Slips.{AreGood}
use Rattle.cut_journal.specs.declared.fault.JournalFault.{JournalFault}
use Rattle.cut_status.specs.Status.{held_trials, part_text}
use Rattle.cut_shares.specs.join.Joined.{joined}
use Rattle.cut_commands.specs.Faults.{IsRefusalOfNew, IsRefusalOfOld, fault_of_files}
use Rattle.cut_commands.specs.Run.{CommandAnswers, EndsRead, GivesPlanFrom, HasUnread, plan_place}
use Rattle.cut_commands.specs.Task.{Task}
use Rattle.cut_commands.specs.declared.fault.CliFault.{CliFault}
use Rattle.cut_commands.specs.declared.fault.CliFault.TheVariants.{Memory, Plan, Read, Journal}
use Rattle.cut_machines.specs.JoinSources.{AreRead, HoldAll, IsRefusedAt, StopsReading}
use Rattle.cut_commands.specs.NewStudy.{writing_faults}
use Rattle.cut_machines.specs.JoinTarget.{LeavesDisk, StopsWriting}

-- the line that says how many slips were joined to how many, and how many trials of how many these hold
unfoldable pub joined_text : Values → List Slip → List ℕ
joined_text v slips =
    codes "joined " ++ decimal (length slips) ++ codes " into " ++ decimal (length (joined v slips)) ++ codes ", "
    ++ part_text (held_trials v slips) (trial_count v) ++ 10 ∷ []

-- ---- over the disk of the new file

-- the files of a join: the paths of the old ones, in their order; what stands at each path, the new file being open,
-- before the join and after it; and the log of the new file's disk before and after
pub record JoinFiles : Type 0 where
  pub old : List (List ℕ)
  pub found : List ℕ → Place
  pub left : List ℕ → Place
  pub disk : DiskLog
  pub back : DiskLog

-- the old files said these slips, with which a ledger of the plan can begin; and what is left on the new disk, by how
-- the writing of the joined ones ended
pub record HasWritten (result : Result ⊤ CliFault) (files : JoinFiles) (v : Values) (slips : List Slip) : Type 0 where
  pub held : HoldAll files.found files.old v slips
  pub read : AreRead files.found files.left files.old
  pub good : AreGood v slips
  pub written : Goes (writing_faults result) (LeavesDisk result v slips) files.disk files.back

-- all were written, and these bytes say how many
abbrev pub JoinWrites : JoinFiles → Values → List ℕ → Type 0
JoinWrites files v whole = (slips : List Slip) × (HasWritten (Ok tt) files v slips × (whole ≡ joined_text v slips))

-- why they were not: no slips were joined, and the new disk is as before; or not all were written
abbrev pub StopsJoin : JoinFiles → Values → CliFault → Type 0
StopsJoin files v fault = (StopsReading files.found files.left files.old v fault × (files.back ≡ files.disk))
    ⊎ (StopsWriting fault × ((slips : List Slip) × HasWritten (Err fault) files v slips))

abbrev pub join_task : JoinFiles → Task
join_task files = record { answers = JoinWrites files; fails = StopsJoin files }

-- nothing was done to a file, nor to the new disk
pub record AreUntouched (files : JoinFiles) : Type 0 where
  pub new : files.back ≡ files.disk
  pub each : (path : List ℕ) → files.left path ≡ files.found path

-- what is left of the files at the other ends: they are as before if no plan was read; and if memory ran out, unless a
-- plan was read and its slips were joined
abbrev pub LeavesOther : Option Place → JoinFiles → WireLog → WireLog → Result ⊤ CliFault → Type 0
LeavesOther plan files old new (Err Read) = AreUntouched files
LeavesOther plan files old new (Err (Plan refusal)) = AreUntouched files
LeavesOther plan files old new (Err Memory) = AreUntouched files
    ⊎ ((v : Values) × (GivesPlanFrom plan (Ok v) old new × StopsJoin files v Memory))
LeavesOther plan files old new result = ⊤

-- what a fault of a journal is one of, for a plan that was read: of the old file at a place, from 1, which is the first
-- that said no slips, and the new disk is as before; or of the new disk, and all old files said their slips
abbrev pub RefusesOld : JoinFiles → Values → JournalFault → Option ℕ → Type 0
RefusesOld files v fault (Some number) =
    IsRefusedAt files.found files.left files.old v fault number × (files.back ≡ files.disk)
RefusesOld files v fault None =
    IsRefusalOfNew fault × ((slips : List Slip) × HasWritten (Err (Journal fault)) files v slips)

-- which old file is refused, if one is: none at another end
abbrev pub NamesRefused : Option Place → JoinFiles → WireLog → WireLog → Result ⊤ CliFault → Option ℕ → Type 0
NamesRefused plan files old new (Err (Journal fault)) refused =
    (v : Values) × (GivesPlanFrom plan (Ok v) old new × RefusesOld files v fault refused)
NamesRefused plan files old new result refused = refused ≡ None

-- how it ends, by where its plan is read from: as a command does, which old file is refused, and what is left of the files
pub record EndsJoinCommand (plan : Option Place) (files : JoinFiles) (old new : WireLog) (ended : Result ⊤ CliFault)
    (refused : Option ℕ) : Type 0 where
  pub command : EndsRead (CommandAnswers (join_task files)) plan old new ended
  pub names : NamesRefused plan files old new ended refused
  pub other : LeavesOther plan files old new ended
  pub known : is_known files.back ≡ is_known files.disk

-- or the plan's file was not read: then nothing is done to a file, and no old one is refused
abbrev pub EndsJoinFrom : Option Place → JoinFiles → WireLog → WireLog → Result ⊤ CliFault → Option ℕ → Type 0
EndsJoinFrom plan files old new ended refused =
    EndsJoinCommand plan files old new ended refused
    ⊎ (AreUntouched files × (refused ≡ None) × HasUnread plan ended old new)

-- ---- over files

-- the new file was opened, and given back at the end; meanwhile the plan was read, from its file if it has one, and the
-- old ones
pub record HasJoined (to : List ℕ) (from : List (List ℕ)) (plan : Option (Bor (List ℕ))) (before after : List ℕ → Place)
    (old new : WireLog) (ended : Result ⊤ CliFault) (refused : Option ℕ) : Type 0 where
  pub found : List ℕ → Place
  pub left : List ℕ → Place
  pub disk : DiskLog
  pub back : DiskLog
  pub opens : OpensAs Create disk (before to)
  pub out : found to ≡ opened (before to)
  pub beside : StaysElsewhere to before found
  pub ends : EndsJoinFrom (plan_place found plan)
      (record { old = from; found = found; left = left; disk = disk; back = back }) old new ended refused
  pub shut : after to ≡ closed back (before to)
  pub others : StaysElsewhere to left after

-- how a join ends of the files at these paths, in the file at another, and by that of its plan, if it has one: over what
-- stands at each path; or the new file was not opened, nothing was read or written, and each file is as before
abbrev pub EndsJoin : List ℕ → List (List ℕ) → Option (Bor (List ℕ)) → (List ℕ → Place) → (List ℕ → Place) → WireLog
    → WireLog → Result ⊤ CliFault → Option ℕ → Type 0
EndsJoin to from plan before after old new ended refused =
    HasJoined to from plan before after old new ended refused
    ⊎ ((fault : OpenFault) × (MayNotOpen Create fault (before to) × ((path : List ℕ) → after path ≡ before path)
    × (ended ≡ Err (fault_of_files fault)) × (refused ≡ None) × (new ≡ old)))

-- whatever is known of the files: a fault of a journal is that of the old file at a place, from 1, among `count` ones, or
-- of the new file, and no old one is refused at another end
abbrev pub NamesRefusedFile : ℕ → Result ⊤ CliFault → Option ℕ → Type 0
NamesRefusedFile count (Err (Journal fault)) (Some number) = (1 ≤ number) × (number ≤ count) × IsRefusalOfOld fault
NamesRefusedFile count (Err (Journal fault)) None = IsRefusalOfNew fault
NamesRefusedFile count result refused = refused ≡ None
