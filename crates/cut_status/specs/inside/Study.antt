-- What only the crate's own clauses and proofs cite, beside specs/Study.antt.
use Rattle.std.specs.Prelude.{◌≡◌, ◌≢◌, ◌++◌, ℕ, List, Result, Ok, Err, ⊤}
use Rattle.cut_plan.specs.Canonical.{canonical_text}
use Rattle.cut_plan.specs.Plan.{IsPlan}
use Rattle.cut_plan.specs.Values.{Values}
use Rattle.cut_ledger.specs.declared.slip.Slip.{Slip}
use Rattle.cut_ledger.specs.Slips.{IsFirstBad}
use Rattle.cut_ledger.specs.Tally.{Tally, HasAdded}
use Rattle.cut_journal.specs.declared.fault.JournalFault.{JournalFault}
use Rattle.cut_journal.specs.declared.fault.JournalFault.TheVariants as journal
use Rattle.cut_journal.specs.Reading.{reading}
use Rattle.cut_journal.specs.Unread.{Unread}
use Rattle.cut_status.specs.declared.fault.StatusFault.{StatusFault}
use Rattle.cut_status.specs.declared.fault.StatusFault.TheVariants.{Memory, Damaged, BadSlip}

-- why no plan is found by its text: memory ran out, or it is the canonical text of no accepted plan
abbrev pub IsOfNoPlan : List ℕ → StatusFault → Type 0
IsOfNoPlan text Memory = ⊤
IsOfNoPlan text (Damaged number) = (number ≡ 0) × ((v : Values) → IsPlan v → text ≢ canonical_text v)
IsOfNoPlan text fault = ⊥

-- why slips of a plan have no status: memory ran out, or one of them is bad
abbrev pub IsFaultOver : Values → List Slip → StatusFault → Type 0
IsFaultOver v slips Memory = ⊤
IsFaultOver v slips (BadSlip number) = IsFirstBad v slips number
IsFaultOver v slips fault = ⊥

-- the fault of a journal, as one of a status
abbrev pub status_fault_of : JournalFault → StatusFault
status_fault_of journal.Memory = Memory
status_fault_of (journal.Damaged number) = Damaged number
status_fault_of fault = Damaged 0

-- what bytes are read as, by the slips before and what is still to be read
abbrev pub after_slips : List Slip → Result (List Slip) JournalFault → Result (List Slip) JournalFault
after_slips before (Ok slips) = Ok (before ++ slips)
after_slips before (Err fault) = Err fault

-- some slips of bytes were read and added to a tally, and the others are still to be read
pub record IsUnderWay (v : Values) (bytes : List ℕ) (tally : Tally) (unread : Unread) : Type 0 where
  pub plan : tally.plan ≡ v
  pub before : List Slip
  pub added : HasAdded tally before
  pub read : reading v bytes ≡ after_slips before unread.slips

-- bytes are read as some slips of a plan, and these were added to a tally
pub record IsTallyIn (v : Values) (bytes : List ℕ) (tally : Tally) : Type 0 where
  pub plan : tally.plan ≡ v
  pub slips : List Slip
  pub read : reading v bytes ≡ Ok slips
  pub added : HasAdded tally slips
