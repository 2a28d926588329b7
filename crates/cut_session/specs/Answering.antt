-- What a server may reply to requests (this project's format).
use Rattle.std.specs.Prelude.{Bool, ◌≡◌, ◌<◌, ◌≤◌, ◌⊎◌, ◌++◌, ℕ, List, [], ◌∷◌, length, Result, Ok, Err}
use Rattle.std.specs.Int.{w16, w32, w64, to_be_bytes, from_be_bytes}
use Rattle.std.specs.List.{range_with_len, flat_map}
use Rattle.cut_faults.specs.declared.code.FaultCode.{FaultCode}
use Rattle.cut_faults.specs.declared.code.FaultCode.TheVariants as code
use Rattle.cut_faults.specs.Codes.{number_of}
use Rattle.cut_plan.specs.declared.refusal.Refusal.{Refusal}
use Rattle.cut_plan.specs.Accepted.{plan_of}
use Rattle.cut_plan.specs.Cells.{cells_of}
use Rattle.cut_plan.specs.Refusals.{code_of_refusal}
use Rattle.cut_plan.specs.Values.{Values}
use Rattle.cut_plan.specs.Failing.{version_of}
use Rattle.cut_board.specs.declared.view.View.{View}
use Rattle.cut_board.specs.Views.{seen_in}
use Rattle.cut_ledger.specs.lines.Lines.{header}
use Rattle.cut_ledger.specs.declared.slip.Slip.{Slip}
use Rattle.cut_book.specs.declared.submit_fault.SubmitFault.{SubmitFault}
use Rattle.cut_slots.specs.declared.next_row_fault.NextRowFault.{NextRowFault}
use Rattle.cut_book.specs.Faults.{code_of_submit}
use Rattle.cut_slots.specs.Faults.{code_of_line}
use Rattle.cut_hall.specs.Hall.{HallValue}
use Rattle.cut_slots.specs.Lines.{full_line}
use Rattle.cut_slots.specs.Trust.{MayBegin}
use Rattle.cut_messages.specs.declared.kind.Kind.{Kind}
use Rattle.cut_messages.specs.declared.kind.Kind.TheVariants as kind
use Rattle.cut_messages.specs.declared.message.Message.{Message}
use Rattle.cut_messages.specs.Frames.{frame}

-- ---- the parts of replies

-- that a request failed, with the fault's number
abbrev pub error_frame : FaultCode → List ℕ
error_frame fault = frame kind.Fault (to_be_bytes w16 (number_of fault))

-- that a table is whole
abbrev pub end_frame : List ℕ
end_frame = frame kind.Done []

-- the frame of a cell's line, over the slips that the study began with
abbrev pub row_frame : Values → List Slip → ℕ → List ℕ
row_frame plan base cell = frame kind.Row (full_line plan base cell)

-- the frames of the header and of the lines of the first n cells
unfoldable pub rows_to : Values → List Slip → ℕ → List ℕ
rows_to plan base n =
    frame kind.Row (header (version_of plan.failing)) ++ flat_map (row_frame plan base) (range_with_len 0 n)

-- ---- the reply to a plan

-- the whole table, over the slips that the study began with: true ones in a trusted hall, and else such as a disk
-- may have
abbrev pub IsTable : Bool → Values → List ℕ → Type 0
IsTable is_trusted plan out =
    (base : List Slip) × MayBegin is_trusted plan base
    × (out ≡ rows_to plan base (length (cells_of plan)) ++ end_frame)

-- the lines before one that didn't come, and why it didn't
abbrev pub IsBrokenOff : Bool → Values → List ℕ → Type 0
IsBrokenOff is_trusted plan out =
    (base : List Slip) × MayBegin is_trusted plan base × (n : ℕ) × (fault : NextRowFault) × (n < length (cells_of plan))
    × (out ≡ rows_to plan base n ++ error_frame (code_of_line fault))

-- why the hall took no study of the plan
abbrev pub IsNotTaken : List ℕ → Type 0
IsNotTaken out = (fault : SubmitFault) × (out ≡ error_frame (code_of_submit fault))

-- to an accepted plan
abbrev pub IsSubmissionAnswered : Bool → Values → List ℕ → Type 0
IsSubmissionAnswered is_trusted plan out = IsTable is_trusted plan out
    ⊎ (IsBrokenOff is_trusted plan out ⊎ IsNotTaken out)

-- to a text that is a plan, or that is refused
abbrev pub AnswersRead : Bool → Result Values Refusal → List ℕ → Type 0
AnswersRead is_trusted (Ok plan) out = IsSubmissionAnswered is_trusted plan out
AnswersRead is_trusted (Err refusal) out = out ≡ error_frame (code_of_refusal refusal)

-- to a text, for whose reading memory may run out
abbrev pub AnswersText : Bool → List ℕ → List ℕ → Type 0
AnswersText is_trusted text out =
    (out ≡ error_frame code.WorkMemory) ⊎ AnswersRead is_trusted (plan_of text) out

-- ---- the reply to a question for a count

-- of no study has less been seen
abbrev pub Rises : View → View → Type 0
Rises low high = (study : ℕ) → seen_in study low ≤ seen_in study high

-- the count that the session has seen now, which is no less than what it had seen before
abbrev pub ReportsCount : View → View → ℕ → List ℕ → Type 0
ReportsCount low high study out =
    (seen_in study low ≤ seen_in study high) × (out ≡ frame kind.Count (to_be_bytes w64 (seen_in study high)))

-- that there is no slot of this number, exactly if there is none
abbrev pub AnswersCount : HallValue → View → View → ℕ → List ℕ → Type 0
AnswersCount hall low high study out =
    ((study < hall.slots) × ReportsCount low high study out) ⊎ ((hall.slots ≤ study) × (out ≡ error_frame code.NoSlot))

-- ---- the replies to requests

-- to one request, in a hall, by a session that had seen low and has seen high. None follows
-- a message that quits; what is no request has no reply.
abbrev pub AnswersKind : HallValue → View → View → Kind → List ℕ → List ℕ → Type 0
AnswersKind hall low high kind.Submit payload out = AnswersText hall.is_trusted payload out
AnswersKind hall low high kind.Count payload out = AnswersCount hall low high (from_be_bytes w32 payload) out
AnswersKind hall low high kind.Quit payload out = ⊥
AnswersKind hall low high other payload out = out ≡ []

abbrev pub IsAnswered : HallValue → View → View → Message → List ℕ → Type 0
IsAnswered hall low high m out = Rises low high × AnswersKind hall low high m.kind m.payload out

-- to several in order: what was seen after one is what had been seen before the next
abbrev pub AnswersAll : HallValue → View → View → List Message → List ℕ → Type 0
AnswersAll hall low high [] out = Rises low high × (out ≡ [])
AnswersAll hall low high (m ∷ ms) out =
    (middle : View) × (first : List ℕ) × (others : List ℕ) × IsAnswered hall low middle m first
    × AnswersAll hall middle high ms others × (out ≡ first ++ others)
