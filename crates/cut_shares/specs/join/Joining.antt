-- What a join leaves: the joined slips in a journal, appended one after another.
use Rattle.std.specs.Prelude.{◌≡◌, ◌≢◌, ℕ, List, length, Option, Result, Ok, Err}
use Rattle.cut_plan.specs.Values.{Values}
use Rattle.cut_disks.specs.Log.{DiskLog}
use Rattle.cut_ledger.specs.declared.slip.Slip.{Slip}
use Rattle.cut_journal.specs.declared.store_fault.StoreFault.{StoreFault}
use Rattle.cut_journal.specs.declared.store_fault.StoreFault.TheVariants.{Memory, OtherPlan}
use Rattle.cut_journal.specs.Adding.{Adds, AddsNothing, StopsAt}
use Rattle.cut_journal.specs.Journal.{JournalValue}
use Rattle.cut_shares.specs.join.Joined.{joined}

-- how a join of slips of a plan ends, by its answer, if these were added to this journal, and the disk failed at this one:
-- how many it wrote, which are the joined ones; or why it did not write all. Memory can run out only before the first of
-- them is written
abbrev pub StopsJoining : {D : Type 0} → Result ℕ StoreFault → Values → List Slip → JournalValue D → List Slip → Option Slip
    → Type 0
StopsJoining (Ok n) v ss old added failed =
    (old.plan ≡ v) × StopsAt (Ok n) (joined v ss) old.doubtful added failed × (n ≡ length (joined v ss))
StopsJoining (Err Memory) v ss old added failed = AddsNothing added failed
StopsJoining (Err OtherPlan) v ss old added failed = (old.plan ≢ v) × AddsNothing added failed
StopsJoining (Err fault) v ss old added failed =
    (old.plan ≡ v) × StopsAt {T = ℕ} (Err fault) (joined v ss) old.doubtful added failed

-- and what is on its disk then: one append of each slip that was added
abbrev pub EndsJoin : {D : Type 0} → (D → DiskLog) → Result ℕ StoreFault → Values → List Slip → JournalValue D
    → JournalValue D → Type 0
EndsJoin log result v ss old new =
    (added : List Slip) × (failed : Option Slip)
    × (Adds log added failed old new × StopsJoining result v ss old added failed)
