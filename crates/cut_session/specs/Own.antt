-- What a client reads of a plan's study where the slips that it began with are true ones: the plan's own table.
use Rattle.std.specs.Prelude.{◌≡◌, ◌<◌, ◌⊎◌, ◌++◌, ℕ, true, List, length, Ok}
use Rattle.std.specs.List.{range_with_len, flat_map}
use Rattle.cut_faults.specs.declared.code.FaultCode.{FaultCode}
use Rattle.cut_plan.specs.Accepted.{plan_of}
use Rattle.cut_plan.specs.Cells.{cells_of}
use Rattle.cut_plan.specs.Values.{Values}
use Rattle.cut_plan.specs.Failing.{version_of}
use Rattle.cut_ledger.specs.lines.Lines.{header, line_with}
use Rattle.cut_outcome.specs.Sum.{sum_of, trials_of_cell}
use Rattle.cut_messages.specs.declared.kind.Kind.TheVariants as kind
use Rattle.cut_messages.specs.Frames.{frame}
use Rattle.cut_session.specs.Answering.{AnswersText, end_frame, error_frame}

-- the frame of a cell's line, as the definitions give it trial by trial
abbrev pub own_frame : Values → ℕ → List ℕ
own_frame plan cell = frame kind.Row (line_with plan cell (sum_of plan (trials_of_cell plan cell)))

-- the frames of the header and of the lines of the first n cells
unfoldable pub own_rows_to : Values → ℕ → List ℕ
own_rows_to plan n =
    frame kind.Row (header (version_of plan.failing)) ++ flat_map (own_frame plan) (range_with_len 0 n)

-- the frames of the table, all of them
abbrev pub IsOwnTable : Values → List ℕ → Type 0
IsOwnTable plan out = out ≡ own_rows_to plan (length (cells_of plan)) ++ end_frame

-- or those of its first lines, and a fault
abbrev pub IsOwnPrefix : Values → List ℕ → Type 0
IsOwnPrefix plan out =
    (n : ℕ) × (fault : FaultCode) × (n < length (cells_of plan)) × (out ≡ own_rows_to plan n ++ error_frame fault)

-- or a fault alone
abbrev pub IsFaultAlone : List ℕ → Type 0
IsFaultAlone out = (fault : FaultCode) × (out ≡ error_frame fault)

-- the reply to a text that is a plan
abbrev pub IsOwnReply : Values → List ℕ → Type 0
IsOwnReply plan out = IsOwnTable plan out ⊎ (IsOwnPrefix plan out ⊎ IsFaultAlone out)

-- whatever a session in a trusted hall may reply to a plan is such a reply
abbrev pub TrustedRepliesAreOwn : Type 0
TrustedRepliesAreOwn =
    (text : List ℕ) (plan : Values) (out : List ℕ) → plan_of text ≡ Ok plan → AnswersText true text out
    → IsOwnReply plan out
