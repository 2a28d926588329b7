-- What a run of a share leaves in the journal, by how it ends.
use Rattle.std.specs.Prelude.{◌≡◌, ◌≢◌, ◌≤◌, ◌++◌, ◌&&◌, ℕ, Bool, not, List, [], ◌∷◌, length, All, IsTrue}
use Rattle.std.specs.Prelude.{IsSome, Option, None, Some, Result, Ok, Err}
use Rattle.cut_plan.specs.Values.{Values}
use Rattle.cut_outcome.specs.Outcome.{one_if}
use Rattle.cut_ledger.specs.declared.slip.Slip.{Slip}
use Rattle.cut_ledger.specs.Contents.{is_in_base}
use Rattle.cut_ledger.specs.Slips.{AreGood, IsFirstBad}
use Rattle.cut_ledger.specs.World.{times_in, pieces_of_slips}
use Rattle.cut_journal.specs.Journal.{JournalValue}
use Rattle.cut_disks.specs.Log.{DiskLog}
use Rattle.cut_journal.specs.declared.store_fault.StoreFault.{StoreFault}
use Rattle.cut_journal.specs.declared.store_fault.StoreFault.TheVariants.{Memory, OtherPlan, BadSlip, WorkMemory, Broken, Disk}
use Rattle.cut_journal.specs.Adding.{Adds, AddsNothing}
use Rattle.cut_shares.specs.declared.share.share.Share.{Share}
use Rattle.cut_shares.specs.share.Share.{IsShareSlip, is_in_share, trials_of_share}

-- whether a trial is of the share, and in none of these slips
abbrev pub is_lacking : Share → Values → List Slip → ℕ → Bool
is_lacking s v ss t = is_in_share s v t && not (is_in_base ss t)

-- slips that a run of the share may add to these: true ones of the share, none of whose trials these slips have or
-- another of them
pub record AreOfShare (s : Share) (v : Values) (ss added : List Slip) : Type 0 where
  pub each : All (IsShareSlip s v) added
  pub once : (t : ℕ) → times_in (pieces_of_slips added) t ≤ one_if (is_lacking s v ss t)

-- and these are all: each trial of the share that these slips lack is in one of those added
abbrev pub AreWhole : Share → Values → List Slip → List Slip → Type 0
AreWhole s v ss added = (t : ℕ) → times_in (pieces_of_slips added) t ≡ one_if (is_lacking s v ss t)

-- a share can be run over these slips of its plan: a ledger can begin with them, and the journal is the plan's
pub record CanRun {D : Type 0} (v : Values) (ss : List Slip) (log : JournalValue D) : Type 0 where
  pub good : AreGood v ss
  pub plan : log.plan ≡ v

-- some trial of the share is in none of these slips
abbrev pub IsNotDone : Share → Values → List Slip → Type 0
IsNotDone s v ss = (t : ℕ) × IsTrue (is_lacking s v ss t)

-- how a run of a share ends, by its answer, if these slips were added to this journal, and the disk failed at this one: the
-- share has n trials, and all are held now; or why it stopped
abbrev pub StopsRunning : {D : Type 0} → Result ℕ StoreFault → Share → Values → List Slip → JournalValue D → List Slip
    → Option Slip → Type 0
StopsRunning (Ok n) s v ss old added failed =
    (n ≡ length (trials_of_share s v)) × CanRun v ss old × AreOfShare s v ss added × AreWhole s v ss added × (failed ≡ None)
StopsRunning (Err OtherPlan) s v ss old added failed = (old.plan ≢ v) × AddsNothing added failed
StopsRunning (Err (BadSlip n)) s v ss old added failed =
    (old.plan ≡ v) × IsFirstBad v ss n × AddsNothing added failed
StopsRunning (Err Memory) s v ss old added failed = (old.plan ≡ v) × AddsNothing added failed
StopsRunning (Err WorkMemory) s v ss old added failed =
    CanRun v ss old × AreOfShare s v ss added × IsNotDone s v (ss ++ added) × (failed ≡ None)
StopsRunning (Err Broken) s v ss old added failed =
    CanRun v ss old × IsNotDone s v ss × IsSome old.doubtful × AddsNothing added failed
StopsRunning (Err Disk) s v ss old added failed =
    CanRun v ss old × ((slip : Slip) × (AreOfShare s v ss (added ++ slip ∷ []) × (failed ≡ Some slip)))
StopsRunning (Err fault) s v ss old added failed = ⊥

-- and what is on its disk then: one append of each slip that was added
abbrev pub EndsShare : {D : Type 0} → (D → DiskLog) → Result ℕ StoreFault → Share → Values → List Slip → JournalValue D
    → JournalValue D → Type 0
EndsShare log result s v ss old new =
    (added : List Slip) × (failed : Option Slip)
    × (Adds log added failed old new × StopsRunning result s v ss old added failed)
