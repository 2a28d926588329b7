-- What only the crate's own clauses and proofs cite, beside specs/Book.antt.
use Rattle.std.specs.Prelude.{◌≡◌, ◌++◌, ◌≤◌, ℕ, Bool, true, false, not, List, [], length, count_by}
use Rattle.std.specs.Prelude.{Option, Some, None, IsTrue, IsErrOf, IfSome, All, is_some, if◌then◌else◌, Result, Ok, Err}
use Rattle.cut_plan.specs.Values.{Values}
use Rattle.cut_outcome.specs.Computed.{Computed}
use Rattle.cut_outcome.specs.declared.piece.Piece.{Piece}
use Rattle.cut_outcome.specs.Sum.{is_piece}
use Rattle.cut_ledger.specs.declared.slip.Slip.{Slip}
use Rattle.cut_ledger.specs.Contents.{Contents}
use Rattle.cut_ledger.specs.Machine.{StudyState, after, refused_code}
use Rattle.cut_ledger.specs.Refusals.{CanTake, refusal_of}
use Rattle.cut_disks.specs.Log.{DiskLog}
use Rattle.cut_journal.specs.Journal.{JournalValue}
use Rattle.cut_book.specs.declared.call.Answer.{Answer}
use Rattle.cut_book.specs.declared.call.Answer.TheVariants.{Accepted, DiskFails}
use Rattle.cut_book.specs.declared.fault.BookFault.TheVariants as fault
use Rattle.cut_book.specs.History.{HistoryValue, IsAnswer, LeadsTo, accepted_slip, accepted_slips, event_of, opened_by}
use Rattle.cut_book.specs.Kept.{doubtful_in}
use Rattle.cut_book.specs.Book.{BookValue, FollowsState, answer_of, failed_since, failures_of, faults_after}
use Rattle.cut_book.specs.Book.{hand_in_of, returned}

-- a result is refused before its append with this answer, which is a step that changes nothing
pub record IsRefused (s : StudyState) (r : Computed) (a : Answer) : Type 0 where
  pub answered : IsAnswer s r a
  pub state : after s (event_of a r) ≡ s
  pub reported : answer_of (returned a) s ≡ Some a
  pub slips : accepted_slip (hand_in_of s r a) ≡ []
  pub broken : IsErrOf (returned a) fault.Checkpoint → s.broken ≡ true
  pub same_faults : (n : ℕ) → faults_after (Some a) n ≡ n

-- a result is not refused: no append has failed, and the ledger takes it
pub record IsFree (s : StudyState) (r : Computed) : Type 0 where
  pub unbroken : s.broken ≡ false
  pub fine : refusal_of s.ledger r ≡ None
  pub code : refused_code s r ≡ None
  pub fits : CanTake s.ledger r

-- the answer to a result whose slip was appended, or was not
abbrev pub append_answer : {T E : Type 0} → Result T E → Answer
append_answer (Ok done) = Accepted
append_answer (Err failed) = DiskFails

-- the slip that is doubtful after it, if one is
abbrev pub doubt_after : Answer → Slip → Option Slip
doubt_after DiskFails slip = Some slip
doubt_after answer slip = None

-- a journal after an append, if there is one: it is of this plan, with this slip doubtful
pub record IsAppended {D : Type 0} (doubtful : Option Slip) (v : Values) (old new : Option (JournalValue D)) : Type 0
  where
    pub some : is_some new ≡ is_some old
    pub plan : IfSome new (λ log. log.plan ≡ v)
    pub doubt : doubtful_in new ≡ doubtful

-- the slips that are kept: with a journal those of the base, and those that were accepted since
abbrev pub kept_in : HistoryValue → List Slip
kept_in h =
    if h.opening.has_journal then h.opening.base ++ accepted_slips h.calls else h.opening.base

-- the state of a study, by what its book has
abbrev pub state_in : {D : Type 0} → Contents → Option (JournalValue D) → List Piece → List Bool → HistoryValue → Bool
    → StudyState
state_in l journal division lost history broken = record {
  ledger = l;
  has_journal = history.opening.has_journal;
  division = division;
  drawn = 0;
  lost = lost;
  kept = kept_in history;
  doubtful = doubtful_in journal;
  broken = broken;
  sent = 0;
  wire_lost = false;
}

abbrev pub book_value_in : {D : Type 0} → Option (JournalValue D) → StudyState → HistoryValue → ℕ → BookValue D
book_value_in journal s history failed = record {
  journal = journal;
  state = s;
  size = history.opening.size;
  calls = history.calls;
  failed = failed;
}

-- what is true of every book: of a disk, by what is known of each
pub record IsBook {D : Type 0} (log_of : D → DiskLog)
    (journal : Option (JournalValue D)) (s : StudyState) (history : HistoryValue) (places : ℕ) (failed : ℕ) : Type 0
  where
    -- the history leads to the state
    pub legal : LeadsTo (opened_by history.opening) history.calls s
    -- it is of the plan and the base that it was opened with
    pub plan : s.ledger.plan ≡ history.opening.plan
    pub base : s.ledger.base ≡ history.opening.base
    -- of each piece it is noted whether it is lost, and for each that is not there is a place in the history
    pub pieces : length s.lost ≡ length s.division
    pub divided : All (λ p. IsTrue (is_piece s.ledger.plan p)) s.division
    pub losable : places ≡ count_by not s.lost
    pub room : places ≤ history.room
    -- the journal is that of the state, and an append has failed exactly where there is a doubtful slip
    pub has_journal : s.has_journal ≡ is_some journal
    pub of_plan : IfSome journal (λ log. log.plan ≡ s.ledger.plan)
    pub broken : s.broken ≡ is_some s.doubtful
    pub followed : FollowsState log_of journal s
    pub failures : failures_of log_of journal ≡ failed_since s.broken failed
