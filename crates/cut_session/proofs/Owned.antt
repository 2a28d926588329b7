-- Rows over true slips are the rows of the plan's own table.
use Rattle.std.proofs.Common.{◌≡◌, ℕ, zero, suc, ◌+◌, ◌≤◌, ◌<◌, inl, inr, true, List, length, Ok, Result, refl}
use Rattle.std.proofs.Common.{ap, subst, arith}
use Rattle.std.specs.List.{flat_map, range_with_len}
use Rattle.cut_plan.specs.Accepted.{plan_of}
use Rattle.cut_plan.specs.Cells.{cells_of}
use Rattle.cut_plan.specs.Plan.{IsPlan}
use Rattle.cut_plan.specs.Values.{Values}
use Rattle.cut_plan.specs.declared.refusal.Refusal.{Refusal}
use Rattle.cut_faults.specs.declared.code.FaultCode.TheVariants as code
use Rattle.cut_ledger.specs.lines.Lines.{line_with}
use Rattle.cut_outcome.specs.Sum.{sum_of, trials_of_cell}
use Rattle.cut_ledger.specs.declared.slip.Slip.{Slip}
use Rattle.cut_ledger.specs.Laws.{TrueSlipsSumAll}
use Rattle.cut_ledger.specs.World.{AreTrue}
use Rattle.cut_book.specs.Faults.{code_of_submit}
use Rattle.cut_slots.specs.Lines.{full_line}
use Rattle.cut_session.specs.Answering.{AnswersText, AnswersRead, IsSubmissionAnswered, IsTable, IsBrokenOff, row_frame}
use Rattle.cut_session.specs.Answering.{rows_to}
use Rattle.cut_session.specs.Own.{own_frame, own_rows_to, IsOwnTable, IsOwnPrefix, IsOwnReply}

own_line : (v : Values) (base : List Slip) (c : ℕ) → TrueSlipsSumAll → IsPlan v → AreTrue v base → c
    < length (cells_of v) → full_line v base c ≡ line_with v c (sum_of v (trials_of_cell v c))
unfolding full_line
own_line v base c sums plan are low = ap (λ t. line_with v c t) (sums v base plan are c low)

own_frames : (v : Values) (base : List Slip) → TrueSlipsSumAll → IsPlan v → AreTrue v base → (a m : ℕ) → a + m
    ≤ length (cells_of v)
    → flat_map (row_frame v base) (range_with_len a m) ≡ flat_map (own_frame v) (range_with_len a m)
own_frames v base sums plan are a zero fits = refl
own_frames v base sums plan are a (suc m) fits =
    grind (arith, own_line, own_frames v base sums plan are (a + 1) m)

own_rows : (v : Values) (base : List Slip) (n : ℕ) → TrueSlipsSumAll → IsPlan v → AreTrue v base → n
    ≤ length (cells_of v) → rows_to v base n ≡ own_rows_to v n
unfolding rows_to own_rows_to
own_rows v base n sums plan are fits =
    grind (arith, own_frames)

own_table : (v : Values) (out : List ℕ) → TrueSlipsSumAll → IsPlan v → IsTable true v out → IsOwnTable v out
own_table v out sums plan is =
    grind (arith, own_rows)

own_prefix : (v : Values) (out : List ℕ) → TrueSlipsSumAll → IsPlan v → IsBrokenOff true v out → IsOwnPrefix v out
own_prefix v out sums plan is = grind (arith, own_rows)

own_plan : (v : Values) (out : List ℕ) → TrueSlipsSumAll → IsPlan v → IsSubmissionAnswered true v out → IsOwnReply v out
own_plan v out sums plan (inl whole) = inl (own_table v out sums plan whole)
own_plan v out sums plan (inr (inl part)) = inr (inl (own_prefix v out sums plan part))
own_plan v out sums plan (inr (inr not_taken)) = inr (inr (code_of_submit not_taken.0, not_taken.1))

pub own_reply : (text : List ℕ) (v : Values) (out : List ℕ) → TrueSlipsSumAll → IsPlan v → plan_of text ≡ Ok v
    → AnswersText true text out → IsOwnReply v out
own_reply text v out sums plan reads (inl memory) = inr (inr (code.WorkMemory, memory))
own_reply text v out sums plan reads (inr read) =
    own_plan v out sums plan (subst (λ (r : Result Values Refusal). AnswersRead true r out) reads read)
