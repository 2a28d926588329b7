-- The frames of a table, as they are sent.
use Rattle.std.proofs.Common.{◌≡◌, ◌+◌, ◌*◌, ◌≤◌, ◌++◌, ℕ, Bool, List, length, Result, Ok, Err, inl, inr, refl, ap}
use Rattle.std.proofs.Common.{arith, length-append}
use Rattle.std.specs.Bool.{⊤}
use Rattle.std.specs.Borrow.{GName}
use Rattle.std.proofs.lemmas.Bool.{cases_lt}
use Rattle.cut_plan.specs.Cells.{cells_of}
use Rattle.cut_plan.specs.Accepted.{plan_of}
use Rattle.cut_plan.specs.Values.{Values}
use Rattle.cut_ledger.specs.declared.slip.Slip.{Slip}
use Rattle.cut_wires.specs.declared.rows.RowsFault.{RowsFault}
use Rattle.cut_wires.specs.declared.rows.RowsFault.TheVariants.{Row, Write}
use Rattle.cut_wires.specs.declared.send.Sent.{Sent}
use Rattle.cut_wires.specs.Rows.{SendsRows}
use Rattle.cut_wires.specs.Sending.{Sending, Sends}
use Rattle.cut_wires.proofs.Sendings.{cut_before, sends_after}
use Rattle.cut_faults.specs.declared.code.FaultCode.{FaultCode}
use Rattle.cut_book.specs.declared.submit_fault.SubmitFault.{SubmitFault}
use Rattle.cut_book.specs.Faults.{code_of_submit}
use Rattle.cut_slots.specs.declared.next_row_fault.NextRowFault.{NextRowFault}
use Rattle.cut_slots.specs.declared.next_row_fault.NextRowFault.TheVariants.{Stopped}
use Rattle.cut_slots.specs.Faults.{code_of_line}
use Rattle.cut_slots.specs.Pass.{Holding}
use Rattle.cut_slots.specs.Trust.{MayBegin}
use Rattle.cut_messages.specs.declared.kind.Kind.TheVariants as kind
use Rattle.cut_messages.specs.Frames.{frame}
use Rattle.cut_session.specs.Answering.{error_frame, end_frame, rows_to, IsSubmissionAnswered, AnswersText}
use Rattle.cut_session.specs.inside.Rows.{IsKept, lines_of, EndsTable}
use Rattle.cut_session.specs.inside.Serving.{Replies, longest_reply}

-- what was sent of the frames of a study's lines, by a pass as it was at first and is now
abbrev pub SendsFrames : Values → List Slip → GName → Holding → GName → Holding → Result ⊤ (RowsFault NextRowFault)
    → Sending → Sending → Type 0
SendsFrames plan base name pass new_name new_pass result old new =
    SendsRows (λ text. frame kind.Row text) (lines_of plan base) (λ n. IsKept name pass new_name new_pass)
    (λ n fault. IsKept name pass new_name new_pass) result old new

module _ (trusts : Bool) (plan : Values) (base : List Slip) (name : GName) (pass : Holding) (new_name : GName)
    (new_pass : Holding) (old mid : Sending) where
  -- the pass has seen no more
  pub kept : (result : Result ⊤ (RowsFault NextRowFault))
      → SendsFrames plan base name pass new_name new_pass result old mid → IsKept name pass new_name new_pass
  kept (Ok done) s = s.ends.1
  kept (Err (Write fault)) s = s.ends.0
  kept (Err (Row fault)) s = s.ends.1

  module _ (begun : MayBegin trusts plan base) (few : length (cells_of plan) ≤ 4096) where
    -- the first rows, and a frame of at most 7 bytes
    short_with : (n : ℕ) (frame : List ℕ) → n ≤ length (cells_of plan) → length (rows_to plan base n) ≤ (n + 1) * 299
        → length frame ≤ 7 → length (rows_to plan base n ++ frame) ≤ longest_reply
    short_with n frame within rows small =
        omega (arith, few, within, rows, small, length-append (rows_to plan base n) frame)

    -- all lines were sent, and then the end; or a fault after the first of them; or a write failed in the frames of
    -- the first of them
    pub table_sent : (x : Result ⊤ (RowsFault NextRowFault)) (result : Result ⊤ Sent) (new : Sending)
        → SendsFrames plan base name pass new_name new_pass x old mid → EndsTable x result mid new
        → Replies (IsSubmissionAnswered trusts plan) longest_reply result old new
    unfolding rows_to
    table_sent (Ok done) result new s sends = (
      rows_to plan base s.count ++ end_frame,
      inl (base, begun, ap (λ n. rows_to plan base n ++ end_frame) s.ends.0),
      short_with s.count end_frame s.few s.short (omega arith),
      sends_after result old mid new (rows_to plan base s.count) end_frame s.ends.2 sends,
    )
    table_sent (Err (Row fault)) result new s sends =
        let last : List ℕ = error_frame (code_of_line fault) in (
          rows_to plan base s.count ++ last,
          inr (inl (base, begun, s.count, fault, s.ends.0, refl)),
          short_with s.count last s.few s.short (omega arith),
          sends_after result old mid new (rows_to plan base s.count) last s.ends.2 sends,
        )
    table_sent (Err (Write failed)) result new s (is, same) =
        rw (is, same)
        (elim (cases_lt s.count (length (cells_of plan))) [
          | inl less ↦ (
              let last : List ℕ = error_frame (code_of_line Stopped) in (
                rows_to plan base s.count ++ last,
                inr (inl (base, begun, s.count, Stopped, less, refl)),
                short_with s.count last s.few s.short (omega arith),
                cut_before failed old mid (rows_to plan base s.count) last s.ends.1,
              )
              )
          | inr all ↦ (
              let is : s.count ≡ length (cells_of plan) = omega (arith, all, s.few) in (
                rows_to plan base s.count ++ end_frame,
                inl (base, begun, ap (λ n. rows_to plan base n ++ end_frame) is),
                short_with s.count end_frame s.few s.short (omega arith),
                cut_before failed old mid (rows_to plan base s.count) end_frame s.ends.1,
              )
              )
        ])

-- ---- the reply to a text

pub plan_answered : (trusts : Bool) (text : List ℕ) (plan taken : Values) (result : Result ⊤ Sent)
    (old new : Sending) → plan_of text ≡ Ok plan → taken ≡ plan
    → Replies (IsSubmissionAnswered trusts taken) longest_reply result old new
    → Replies (AnswersText trusts text) longest_reply result old new
plan_answered trusts text plan taken result old new is same (out, answers, short, sends) =
    grind arith

-- or why the hall took no study of the plan
pub plan_refused : (trusts : Bool) (text : List ℕ) (plan : Values) (fault : SubmitFault) (code : FaultCode)
    (result : Result ⊤ Sent) (old new : Sending) → plan_of text ≡ Ok plan → code ≡ code_of_submit fault
    → Sends result (error_frame code) old new → Replies (AnswersText trusts text) longest_reply result old new
plan_refused trusts text plan fault code result old new is same sends =
    grind arith
