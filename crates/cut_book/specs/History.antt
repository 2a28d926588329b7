-- The history of a study: its calls with their answers, as steps of the machine that a run is.
use Rattle.std.specs.Prelude.{◌≡◌, ◌<◌, ℕ, Bool, true, false, ⊤, List, [], ◌∷◌, length}
use Rattle.std.specs.List.{flat_map, sum_by}
use Rattle.cut_faults.specs.declared.code.FaultCode.TheVariants as code
use Rattle.cut_plan.specs.Values.{Values}
use Rattle.cut_plan.specs.Cells.{cells_of}
use Rattle.cut_outcome.specs.Computed.{Computed}
use Rattle.cut_ledger.specs.declared.slip.Slip.{Slip}
use Rattle.cut_ledger.specs.declared.event.Event.{Event}
use Rattle.cut_ledger.specs.declared.event.Event.TheVariants as event
use Rattle.cut_ledger.specs.declared.event.Reply as replies
use Rattle.cut_ledger.specs.declared.event.Reply.TheVariants as reply
use Rattle.cut_ledger.specs.Contents.{cell_done}
use Rattle.cut_ledger.specs.Machine.{StudyState, opened, reply_to, after, slip_of}
use Rattle.cut_ledger.specs.Refusals.{is_same_plan}
use Rattle.cut_ledger.specs.World.{HasTrueResult}
use Rattle.cut_book.specs.declared.call.Answer.{Answer}
use Rattle.cut_book.specs.declared.call.Answer.TheVariants.{Accepted, Stranger, Overlap, DiskFails, Broken}
use Rattle.cut_book.specs.declared.call.Call.{Call}
use Rattle.cut_book.specs.declared.call.Call.TheVariants.{HandIn, Lose, Row}

-- what a study was opened with: its plan, whether it has a journal, the slips that were kept, and the size of
-- its pieces
pub record Opening : Type 0 where
  pub plan : Values
  pub has_journal : Bool
  pub base : List Slip
  pub size : ℕ

-- the machine as it is opened then
abbrev pub opened_by : Opening → StudyState
opened_by o = opened o.plan o.has_journal o.base o.size

-- a history as contracts see it: the opening, the calls in order, how many more losses fit in the memory that
-- there is, and whether one more call of another kind does
pub record HistoryValue : Type 0 where
  pub opening : Opening
  pub calls : List Call
  pub room : ℕ
  pub has_place : Bool

-- ---- answers to results

-- the event that the machine has for a result with this answer
abbrev pub event_of : Answer → Computed → Event
event_of DiskFails r = event.HandInDiskFails r
event_of answer r = event.HandIn r

-- the machine's reply that an answer is
abbrev pub reply_of : Answer → replies.Reply
reply_of Accepted = reply.Accepted
reply_of Stranger = reply.Refused code.Stranger
reply_of Overlap = reply.Refused code.Overlap
reply_of DiskFails = reply.Refused code.Checkpoint
reply_of Broken = reply.Refused code.Checkpoint

-- a disk fails only in an append, which a study makes that has a journal and in which none has failed
abbrev pub CanFail : Answer → StudyState → Type 0
CanFail DiskFails s = (s.has_journal ≡ true) × (s.broken ≡ false)
CanFail answer s = ⊤

-- the answer to a result is the machine's
pub record IsAnswer (s : StudyState) (r : Computed) (answer : Answer) : Type 0 where
  pub reply : reply_to s (event_of answer r) ≡ reply_of answer
  pub disk : CanFail answer s

-- ---- steps

-- a result of whichever plan was handed in, with this slip, and the machine gave this answer
pub record IsHandedIn (s : StudyState) (slip : Slip) (is_own : Bool) (answer : Answer) (t : StudyState) : Type 0 where
  pub result : Computed
  -- it is one of a piece of its plan, as every `PieceResult` is
  pub true_result : HasTrueResult (event.HandIn result)
  pub slip_is : slip ≡ slip_of result
  pub own_is : is_own ≡ is_same_plan s.ledger.plan result.plan
  pub answered : IsAnswer s result answer
  pub next : t ≡ after s (event_of answer result)

-- a call is a step of the machine from one state to the next: a result with its answer; a piece that counts as lost; or
-- the line of a cell, which is given exactly if the cell is done, and changes nothing
abbrev pub IsStep : StudyState → Call → StudyState → Type 0
IsStep s (HandIn slip is_own answer) t = IsHandedIn s slip is_own answer t
IsStep s (Lose piece) t =
    (reply_to s (event.Lose piece) ≡ reply.Noted) × (t ≡ after s (event.Lose piece))
IsStep s (Row cell is_given) t =
    (cell < length (cells_of s.ledger.plan)) × (is_given ≡ cell_done s.ledger cell) × (t ≡ s)

-- calls lead from one state to another: they are steps, each from where the one before it ends
abbrev pub LeadsTo : StudyState → List Call → StudyState → Type 0
LeadsTo s [] t = s ≡ t
LeadsTo s (call ∷ calls) t = (u : StudyState) × (IsStep s call u × LeadsTo u calls t)

-- a legal history of an opening: its calls lead from there to some state
abbrev pub IsLegalHistory : Opening → List Call → Type 0
IsLegalHistory o calls = (t : StudyState) × LeadsTo (opened_by o) calls t

-- ---- what was accepted

-- the slip of a result that was accepted
abbrev pub accepted_slip : Call → List Slip
accepted_slip (HandIn slip is_own Accepted) = slip ∷ []
accepted_slip call = []

-- the slips of the accepted results, in order
abbrev pub accepted_slips : List Call → List Slip
accepted_slips calls = flat_map accepted_slip calls

-- how many trials their pieces have together
abbrev pub accepted_in : List Call → ℕ
accepted_in calls = sum_by (λ slip. slip.piece.count) (accepted_slips calls)
