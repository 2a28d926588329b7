-- What only the crate's own clauses and proofs cite, beside specs/Migration.antt.
use Rattle.std.specs.Prelude.{◌≡◌, ℕ, List, [], ◌∷◌, Option, Result, Err}
use Rattle.cut_plan.specs.Values.{Values}
use Rattle.cut_disks.specs.Log.{DiskLog}
use Rattle.cut_ledger.specs.declared.slip.Slip.{Slip}
use Rattle.cut_ledger.specs.World.{IsTrueSlip}
use Rattle.cut_journal.specs.declared.store_fault.StoreFault.{StoreFault}
use Rattle.cut_journal.specs.declared.store_fault.StoreFault.TheVariants.{Memory, Disagrees}
use Rattle.cut_journal.specs.Adding.{Adds, AddsNothing, StopsAt}
use Rattle.cut_journal.specs.Journal.{JournalValue}
use Rattle.cut_migration.specs.Migration.{moved}

-- how the move of a slip of this number ends: it is not true, or memory ran out, and nothing is added; or it is, and it is
-- added, moved, or why not
abbrev pub StopsOne : {T : Type 0} → Result T StoreFault → Values → ℕ → Slip → Option Slip → List Slip → Option Slip → Type 0
StopsOne (Err (Disagrees n)) v number s doubtful added failed =
    (n ≡ number) × (IsTrueSlip v s → ⊥) × AddsNothing added failed
StopsOne (Err Memory) v number s doubtful added failed = AddsNothing added failed
StopsOne result v number s doubtful added failed =
    IsTrueSlip v s × StopsAt result (moved v s ∷ []) doubtful added failed

abbrev pub MovesOne : {T D : Type 0} → (D → DiskLog) → Result T StoreFault → Values → ℕ → Slip → JournalValue D
    → JournalValue D → Type 0
MovesOne log result v number s old new =
    (added : List Slip) × (failed : Option Slip)
    × (Adds log added failed old new × StopsOne result v number s old.doubtful added failed)
