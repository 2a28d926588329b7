-- What bytes say of a study whose plan is not known before, or why they say nothing.
use Rattle.std.specs.Prelude.{◌≡◌, ◌⊎◌, ℕ, zero, suc, true, false, List, Result, Ok, Err, ⊤}
use Rattle.cut_plan.specs.Plan.{IsPlan}
use Rattle.cut_plan.specs.Values.{Values}
use Rattle.cut_ledger.specs.declared.slip.Slip.{Slip}
use Rattle.cut_ledger.specs.Slips.{AreGood, IsFirstBad}
use Rattle.cut_journal.specs.declared.fault.JournalFault.{JournalFault}
use Rattle.cut_journal.specs.declared.fault.JournalFault.TheVariants as journal
use Rattle.cut_journal.specs.Reading.{is_study, reading}
use Rattle.cut_status.specs.declared.fault.StatusFault.{StatusFault}
use Rattle.cut_status.specs.declared.fault.StatusFault.TheVariants.{Memory, NoStudy, Damaged, BadSlip}
use Rattle.cut_status.specs.Status.{StatusValue, status_over}

-- bytes are read as these slips of an accepted plan
pub record IsStudyOf (bytes : List ℕ) (v : Values) (slips : List Slip) : Type 0 where
  pub plan : IsPlan v
  pub read : reading v bytes ≡ Ok slips

-- this is the status of bytes: they are read as slips of some plan, which are good ones, and it is theirs
pub record IsStatusOf (bytes : List ℕ) (status : StatusValue) : Type 0 where
  pub plan : Values
  pub slips : List Slip
  pub study : IsStudyOf bytes plan slips
  pub good : AreGood plan slips
  pub is : status ≡ status_over plan slips

-- ---- why there is none

-- bytes are read as slips of some plan, of which slip number n, from 1, is the first that is not good
pub record HasBadSlip (bytes : List ℕ) (n : ℕ) : Type 0 where
  pub plan : Values
  pub slips : List Slip
  pub study : IsStudyOf bytes plan slips
  pub bad : IsFirstBad plan slips n

-- a reading finds no study of its plan: the header is damaged, or of another plan
abbrev pub IsOfNone : Result (List Slip) JournalFault → Type 0
IsOfNone read = (read ≡ Err (journal.Damaged 0)) ⊎ (read ≡ Err journal.OtherPlan)

-- what is damaged of a study: the header, where bytes are a study of no accepted plan; or slip number n, from 1, of
-- some plan
abbrev pub IsDamaged : List ℕ → ℕ → Type 0
IsDamaged bytes zero = (is_study bytes ≡ true) × ((v : Values) → IsPlan v → IsOfNone (reading v bytes))
IsDamaged bytes (suc n) = (v : Values) × (IsPlan v × (reading v bytes ≡ Err (journal.Damaged (suc n))))

-- what a fault says of bytes: that memory ran out says nothing
abbrev pub IsStatusFault : List ℕ → StatusFault → Type 0
IsStatusFault bytes Memory = ⊤
IsStatusFault bytes NoStudy = is_study bytes ≡ false
IsStatusFault bytes (Damaged number) = IsDamaged bytes number
IsStatusFault bytes (BadSlip number) = HasBadSlip bytes number
