-- What a study takes of what is run for it, and with what its journal is left.
use Rattle.std.specs.Prelude.{◌≡◌, ◌≤◌, ◌++◌, ◌&&◌, ℕ, Bool, true, false, not, nat_lt, if◌then◌else◌, List}
use Rattle.std.specs.Prelude.{Option, Some, None, IfSome, is_some}
use Rattle.std.specs.List.{AllByRecursion}
use Rattle.cut_plan.specs.Cells.{trial_count}
use Rattle.cut_plan.specs.Plan.{IsPlan}
use Rattle.cut_plan.specs.Values.{Values}
use Rattle.cut_outcome.specs.Outcome.{one_if}
use Rattle.cut_ledger.specs.declared.slip.Slip.{Slip}
use Rattle.cut_ledger.specs.Contents.{is_complete, is_in_base}
use Rattle.cut_ledger.specs.Machine.{StudyState, some_slip}
use Rattle.cut_ledger.specs.World.{IsTrueSlip, pieces_of_slips, times_in}
use Rattle.cut_disks.specs.Log.{DiskLog, is_known}
use Rattle.cut_journal.specs.Journal.{JournalValue}
use Rattle.cut_book.specs.declared.call.Call.{Call}
use Rattle.cut_book.specs.History.{Opening, opened_by, LeadsTo, accepted_slips}
use Rattle.cut_book.specs.Book.{BookValue, FollowsState, failures_of, failed_since}

-- ---- what is taken

-- whether a trial of a plan is in none of these slips
abbrev pub is_missing : Values → List Slip → ℕ → Bool
is_missing v ss t = nat_lt t (trial_count v) && not (is_in_base ss t)

-- slips that a study may add to those that it was opened with: true ones, none of whose trials these have, or another of
-- those added
pub record AreOfStudy (v : Values) (ss added : List Slip) : Type 0 where
  pub each : AllByRecursion (IsTrueSlip v) added
  pub once : (t : ℕ) → times_in (pieces_of_slips added) t ≤ one_if (is_missing v ss t)

-- and these are all: each trial that the first slips lack is in one of those added
abbrev pub AreAllOfStudy : Values → List Slip → List Slip → Type 0
AreAllOfStudy v ss added = (t : ℕ) → times_in (pieces_of_slips added) t ≡ one_if (is_missing v ss t)

-- what a study has taken, after calls that led from its opening to this state: slips of its own, with that of an append
-- that failed; all that it lacked, where every trial is held; and it keeps them in order, if it has a journal
pub record TakesOwn (o : Opening) (calls : List Call) (s : StudyState) : Type 0 where
  pub own : AreOfStudy o.plan o.base (accepted_slips calls ++ some_slip s.doubtful)
  pub all : is_complete s.ledger ≡ true → AreAllOfStudy o.plan o.base (accepted_slips calls) × (s.doubtful ≡ None)
  pub kept : s.kept ≡ (if o.has_journal then o.base ++ accepted_slips calls else o.base)

-- every study does
abbrev pub StudiesTakeTheirOwn : Type 0
StudiesTakeTheirOwn =
    (o : Opening) (calls : List Call) (s : StudyState) → IsPlan o.plan → LeadsTo (opened_by o) calls s → TakesOwn o calls s

-- ---- its journal

-- what was known of a journal's disk when a study was opened over it: whether its bytes were, and how many of its calls had
-- failed. Without a journal nothing is, and none
pub record DiskStart : Type 0 where
  pub is_known : Bool
  pub failed : ℕ

abbrev pub is_known_in : {D : Type 0} → (D → DiskLog) → Option (JournalValue D) → Bool
is_known_in log_of None = false
is_known_in log_of (Some log) = is_known (log_of log.disk)

-- the slip of an append that failed
abbrev pub doubtful_in : {D : Type 0} → Option (JournalValue D) → Option Slip
doubtful_in None = None
doubtful_in (Some log) = log.doubtful

abbrev pub disk_start_of : {D : Type 0} → (D → DiskLog) → BookValue D → DiskStart
disk_start_of log_of b = record { is_known = is_known_in log_of b.journal; failed = b.failed }

-- with what journal a study is left that was opened so over a disk of which this was known then, in this state: there is
-- one where it was opened with one; it is the plan's and that of the state; it has a doubtful slip where the study is
-- broken; as much is known of its disk as then, and one call more of it has failed where the study is broken
pub record IsLeftWith {D : Type 0} (log_of : D → DiskLog) (o : Opening) (start : DiskStart) (s : StudyState)
    (journal : Option (JournalValue D)) : Type 0 where
  pub has : o.has_journal ≡ is_some journal
  pub of_plan : IfSome journal (λ log. log.plan ≡ o.plan)
  pub broken : s.broken ≡ is_some s.doubtful
  pub doubt : s.doubtful ≡ doubtful_in journal
  pub follows : FollowsState log_of journal s
  pub known : is_known_in log_of journal ≡ start.is_known
  pub failures : failures_of log_of journal ≡ failed_since s.broken start.failed
