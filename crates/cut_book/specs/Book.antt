-- A book as contracts see it: a study with its journal and its history, and what its calls leave.
use Rattle.std.specs.Prelude.{◌≡◌, ◌↔◌, ◌++◌, ◌+◌, ℕ, true, false, ⊤, List, [], ◌∷◌}
use Rattle.std.specs.Prelude.{Option, Some, None, is_some, if◌then◌else◌, Result, Ok}
use Rattle.std.specs.Prelude.{Err, Bool}
use Rattle.cut_faults.specs.Failures.{one_more}
use Rattle.cut_plan.specs.Values.{Values}
use Rattle.cut_outcome.specs.Computed.{Computed}
use Rattle.cut_ledger.specs.declared.slip.Slip.{Slip}
use Rattle.cut_ledger.specs.Contents.{cell_done}
use Rattle.cut_ledger.specs.Machine.{StudyState, opened, after, slip_of}
use Rattle.cut_ledger.specs.Refusals.{is_same_plan}
use Rattle.cut_ledger.specs.Slips.{IsFirstBad}
use Rattle.cut_disks.specs.State.{DiskState, Throughout}
use Rattle.cut_disks.specs.Log.{DiskLog, IsKnown, is_known, on}
use Rattle.cut_journal.specs.Journal.{JournalValue}
use Rattle.cut_journal.specs.Laws.{IsJournalOf, IsResumed}
use Rattle.cut_book.specs.declared.call.Answer.{Answer}
use Rattle.cut_book.specs.declared.call.Answer.TheVariants.{Accepted, Stranger, Overlap, DiskFails, Broken}
use Rattle.cut_book.specs.declared.call.Call.{Call}
use Rattle.cut_book.specs.declared.call.Call.TheVariants.{HandIn, Row}
use Rattle.cut_book.specs.declared.fault.BookFault.{BookFault}
use Rattle.cut_book.specs.declared.fault.BookFault.TheVariants as fault
use Rattle.cut_book.specs.History.{Opening, event_of, IsAnswer}

-- the journal, if there is one; the state of the study, as the machine has it, though nothing is drawn or sent
-- of it here; the size of its pieces; its calls since it was opened; and how many calls of the disk had failed
-- then, 0 without a journal
pub record BookValue (D : Type 0) : Type 0 where
  pub journal : Option (JournalValue D)
  pub state : StudyState
  pub size : ℕ
  pub calls : List Call
  pub failed : ℕ

-- what it was opened with
abbrev pub opening_of : {D : Type 0} → BookValue D → Opening
opening_of p = record {
  plan = p.state.ledger.plan;
  has_journal = p.state.has_journal;
  base = p.state.ledger.base;
  size = p.size;
}

-- ---- opening

-- how many calls of a journal's disk have failed, 0 without a journal
abbrev pub failures_of : {D : Type 0} → (D → DiskLog) → Option (JournalValue D) → ℕ
failures_of log_of None = 0
failures_of log_of (Some log) = (log_of log.disk).failed

-- how many have failed, where this many had at the opening: one more if the study is broken
abbrev pub failed_since : Bool → ℕ → ℕ
failed_since broken failed = if broken then one_more failed else failed

-- why a book was not opened: memory ran out, which says nothing of the slips, or there is a first bad slip
abbrev pub IsOpeningFault : Values → List Slip → BookFault → Type 0
IsOpeningFault v slips fault.Memory = ⊤
IsOpeningFault v slips (fault.BadSlip number) = IsFirstBad v slips number
IsOpeningFault v slips other = ⊥

-- a study of a plan that was just opened, over the slips of its journal, or over none
pub record IsFresh {D : Type 0} (v : Values) (size : ℕ) (b : BookValue D) : Type 0 where
  pub state : b.state ≡ opened v (is_some b.journal) b.state.ledger.base size
  pub unkept : b.journal ≡ None → b.state.ledger.base ≡ []
  pub calls : b.calls ≡ []

-- ---- disks

-- a journal, if there is one, is that of a run in this state; of a disk of which nothing is known nothing is said
abbrev pub FollowsState : {D : Type 0} → (D → DiskLog) → Option (JournalValue D) → StudyState → Type 0
FollowsState log_of None s = ⊤
FollowsState log_of (Some log) s =
    IsKnown (log_of log.disk) → IsJournalOf log.plan log.count log.doubtful (on (log_of log.disk)) s

-- from one state of a journal to a later one, whatever a crash leaves of its disk at whichever moment says a
-- run as it is resumed from this state
abbrev pub LeavesResumed : {D : Type 0} → (D → DiskLog) → Option (JournalValue D)
    → Option (JournalValue D) → StudyState → Type 0
LeavesResumed log_of (Some old) (Some new) s =
    IsKnown (log_of old.disk) → Throughout (on (log_of old.disk)) (on (log_of new.disk)) (IsResumed old.plan s)
LeavesResumed log_of old new s = ⊤

-- as much is known of a disk as before
abbrev pub IsAsKnown : {D : Type 0} → (D → DiskLog) → Option (JournalValue D) → Option (JournalValue D) → Type 0
IsAsKnown log_of (Some old) (Some new) = is_known (log_of new.disk) ≡ is_known (log_of old.disk)
IsAsKnown log_of old new = ⊤

-- ---- results

-- what a journal is after a result with this answer, and its slip: one slip more is kept; or the disk failed,
-- and the slip is doubtful; or it is as before. Without a journal nothing fails.
abbrev pub JournalAfter : {D : Type 0} → Answer → Slip → Option (JournalValue D) → Option (JournalValue D) → Type 0
JournalAfter Accepted slip None new = new ≡ None
JournalAfter Accepted slip (Some old) None = ⊥
JournalAfter Accepted slip (Some old) (Some new) =
    (new.plan ≡ old.plan) × (new.count ≡ old.count + 1) × (new.doubtful ≡ None)
JournalAfter DiskFails slip (Some old) (Some new) =
    (new.plan ≡ old.plan) × (new.count ≡ old.count) × (new.doubtful ≡ Some slip)
JournalAfter DiskFails slip old new = ⊥
JournalAfter answer slip old new = new ≡ old

-- how many calls of a disk have failed after such a result
abbrev pub faults_after : Option Answer → ℕ → ℕ
faults_after (Some DiskFails) n = one_more n
faults_after answer n = n

-- the answer that a hand-in gave, by what it returned and whether an append had failed before; none if it was not made,
-- as memory ran out
abbrev pub answer_of : {T : Type 0} → Result T BookFault → StudyState → Option Answer
answer_of (Ok done) s = Some Accepted
answer_of (Err fault.Stranger) s = Some Stranger
answer_of (Err fault.Overlap) s = Some Overlap
answer_of (Err fault.Checkpoint) s = Some (if s.broken then Broken else DiskFails)
answer_of (Err other) s = None

-- the call of a result with an answer
abbrev pub hand_in_of : StudyState → Computed → Answer → Call
hand_in_of s r answer = HandIn (slip_of r) (is_same_plan s.ledger.plan r.plan) answer

-- a result got an answer: it is the machine's, whose state follows; the call is the last of the history; and the
-- journal has its slip if it was accepted
pub record GivesAnswer {D : Type 0} (answer : Answer) (r : Computed) (old new : BookValue D) : Type 0 where
  pub answered : IsAnswer old.state r answer
  pub state : new.state ≡ after old.state (event_of answer r)
  pub calls : new.calls ≡ old.calls ++ hand_in_of old.state r answer ∷ []
  pub journal : JournalAfter answer (slip_of r) old.journal new.journal
  pub size : new.size ≡ old.size
  pub failed : new.failed ≡ old.failed

-- a result got that answer, or none, and then all is as before
abbrev pub HandsIn : {D : Type 0} → Option Answer → Computed → BookValue D → BookValue D → Type 0
HandsIn None r old new = new ≡ old
HandsIn (Some answer) r old new = GivesAnswer answer r old new

-- what a hand-in returns with an answer
abbrev pub returned : Answer → Result ⊤ BookFault
returned Accepted = Ok tt
returned Stranger = Err fault.Stranger
returned Overlap = Err fault.Overlap
returned DiskFails = Err fault.Checkpoint
returned Broken = Err fault.Checkpoint

-- the faults of a hand-in
abbrev pub IsHandInFault : BookFault → Type 0
IsHandInFault fault.Memory = ⊤
IsHandInFault fault.Stranger = ⊤
IsHandInFault fault.Overlap = ⊤
IsHandInFault fault.Checkpoint = ⊤
IsHandInFault other = ⊥

-- ---- rows

-- what a call for the line of a cell leaves, by what it returned: the call is the last of the history, and nothing else
-- changes; if memory ran out nothing does
abbrev pub AsksRow : {T D : Type 0} → Result T BookFault → ℕ → BookValue D → BookValue D → Type 0
AsksRow (Ok line) cell old new =
    (cell_done old.state.ledger cell ≡ true)
    × (new ≡ record old { calls = old.calls ++ Row cell true ∷ [] })
AsksRow (Err (fault.NotDone undone)) cell old new =
    (undone ≡ cell) × (cell_done old.state.ledger cell ≡ false)
    × (new ≡ record old { calls = old.calls ++ Row cell false ∷ [] })
AsksRow (Err fault.Memory) cell old new = new ≡ old
AsksRow (Err other) cell old new = ⊥
