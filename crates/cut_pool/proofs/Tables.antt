-- The table over slips, as it is written line by line.
use Rattle.std.proofs.Common.{◌≡◌, ◌∙◌, ◌<◌, ◌≤◌, ◌+◌, ◌-◌, ◌*◌, ◌^◌, ◌++◌, min, ℕ, Result, Ok, Err}
use Rattle.std.proofs.Common.{List, length, take, ap, refl, sym, zero-add, arith, append_assoc, length-append}
use Rattle.std.proofs.Common.{length-take-le}
use Rattle.std.specs.Bool.{⊤}
use Rattle.std.specs.Prelude.{OnOk}
use Rattle.std.specs.Borrow.{GName}
use Rattle.std.specs.List.{range_with_len, flat_map}
use Rattle.std.proofs.Math.Seq.{take-append_seam}
use Rattle.std.proofs.lemmas.List.{take-append-le}
use Rattle.std.proofs.lemmas.List.Concat.{flat_map-append}
use Rattle.cut_lists.proofs.Ranges.{ranges-join}
use Rattle.cut_plan.specs.Values.{Values}
use Rattle.cut_plan.specs.Cells.{cells_of}
use Rattle.cut_plan.specs.Failing.{version_of}
use Rattle.cut_ledger.specs.lines.Lines.{header}
use Rattle.cut_ledger.specs.declared.slip.Slip.{Slip}
use Rattle.cut_ledger.specs.Table.{table_over}
use Rattle.cut_wires.specs.declared.rows.RowsFault.{RowsFault}
use Rattle.cut_wires.specs.declared.rows.RowsFault.TheVariants.{Row, Write}
use Rattle.cut_wires.specs.Log.{WireLog, wrote, write_failed}
use Rattle.cut_wires.specs.Rows.{SendsRows, rows_to}
use Rattle.cut_wires.specs.Sending.{Sending}
use Rattle.cut_slots.specs.declared.next_row_fault.NextRowFault.{NextRowFault}
use Rattle.cut_pool.specs.inside.Emission.{EmitsStudy, Worked, emit_result_of, lines_of}
use Rattle.cut_slots.specs.Lines.{full_line}
use Rattle.cut_slots.specs.Pass.{Holding}

-- the header and the lines of the first n cells
abbrev pub lines_to : Values → List Slip → ℕ → List ℕ
lines_to v base n = rows_to (λ text. text) (lines_of v base) n

-- the lines of the cells that come after the first n
abbrev pub lines_after : Values → List Slip → ℕ → List ℕ
lines_after v base n = flat_map (full_line v base) (range_with_len n (length (cells_of v) - n))

-- ---- it is the table over the slips

pub table_ends : (v : Values) (base : List Slip) → table_over v base ≡ lines_to v base (length (cells_of v))
unfolding full_line
table_ends v base = refl

table_splits : (v : Values) (base : List Slip) (n : ℕ) → n ≤ length (cells_of v)
    → table_over v base ≡ lines_to v base n ++ lines_after v base n
table_splits v base n few =
    let all : ℕ = length (cells_of v) in
    let line : ℕ → List ℕ = full_line v base in
    let first : List ℕ = header (version_of v.failing) in
    let whole : n + (all - n) ≡ all = omega (arith, few) in
    let parts : range_with_len 0 all ≡ range_with_len 0 n ++ range_with_len n (all - n) =
    ap (λ m. range_with_len 0 m) (sym whole) ∙ sym (ranges-join 0 n (all - n))
    ∙ ap (λ b. range_with_len 0 n ++ range_with_len b (all - n)) (zero-add n) in
    table_ends v base
    ∙ ap (λ cells. first ++ flat_map line cells) parts
    ∙ ap (λ xs. first ++ xs) (flat_map-append line (range_with_len 0 n) (range_with_len n (all - n)))
    ∙ sym (append_assoc first (flat_map line (range_with_len 0 n)) (lines_after v base n))

-- ---- how its writing ended

-- the pass of the thread that writes, at first and now
abbrev pub SendsLines : Values → List Slip → GName → Holding → GName → Holding → Result ⊤ (RowsFault NextRowFault)
    → Sending → Sending → Type 0
SendsLines v base name pass new_name new_pass result old new =
    SendsRows (λ text. text) (lines_of v base) (λ n. Worked name pass n new_name new_pass)
    (λ n fault. Worked name pass n new_name new_pass) result old new

-- it is the same pass
pub kept : (v : Values) (base : List Slip) (name : GName) (pass : Holding) (new_name : GName) (new_pass : Holding)
    (result : Result ⊤ (RowsFault NextRowFault)) (old new : Sending)
    → SendsLines v base name pass new_name new_pass result old new → (new_name ≡ name) × (new_pass.hall ≡ pass.hall)
kept v base name pass new_name new_pass (Ok done) old new s = (s.ends.1.same, s.ends.1.own)
kept v base name pass new_name new_pass (Err (Write fault)) old new s = (s.ends.0.same, s.ends.0.own)
kept v base name pass new_name new_pass (Err (Row fault)) old new s = (s.ends.1.same, s.ends.1.own)

-- which made a call for each line, where all were sent
pub made_all : (v : Values) (base : List Slip) (name : GName) (pass : Holding) (new_name : GName) (new_pass : Holding)
    (result : Result ⊤ (RowsFault NextRowFault)) (sent : ℕ) (old new : Sending)
    → SendsLines v base name pass new_name new_pass result old new
    → OnOk (emit_result_of result sent) (pass.made + length (cells_of v) ≤ new_pass.made)
made_all v base name pass new_name new_pass (Ok done) sent old new s = omega (arith, s.ends.1.made, s.ends.0)
made_all v base name pass new_name new_pass (Err fault) sent old new s = tt

-- the count is exact: as many bytes were sent as are written of the lines
sent_first : (xs : List ℕ) (n rows k : ℕ) → n ≤ rows → rows < 2 ^ 32 → length xs ≤ (n + 1) * 299 → k ≤ length xs
    → min (0 + length (take k xs)) (2 ^ 64 - 1) ≡ k
sent_first xs n rows k few many short low = omega (arith, few, many, short, low, length-take-le k xs low)

-- what the wire took of the table, by what was sent of its lines by a counting writer that had sent nothing
emits : (v : Values) (base : List Slip) (name : GName) (pass : Holding) (new_name : GName) (new_pass : Holding)
    (wire : GName) (log : WireLog) (result : Result ⊤ (RowsFault NextRowFault)) (new : Sending)
    → SendsLines v base name pass new_name new_pass result (record { wire = wire; log = log; sent = 0 }) new
    → EmitsStudy (table_over v base) (emit_result_of result new.sent) log new.log
emits v base name pass new_name new_pass wire log (Ok done) new s =
    grind (arith, table_ends)
emits v base name pass new_name new_pass wire log (Err (Write fault)) new s =
    let (count, (k, low, is)) = s.ends.1 in
    let xs : List ℕ = lines_to v base s.count in
    let split = table_splits v base s.count s.few in
    let sent : fault.sent ≡ k =
    count ∙ ap (λ (t : Sending). t.sent) is
    ∙ sent_first xs s.count (length (cells_of v)) k s.few s.rows s.short (omega (arith, low)) in
    let first : take k xs ≡ take fault.sent (table_over v base) =
    sym (ap (λ (ys : List ℕ). take fault.sent ys) split
    ∙ take-append-le fault.sent xs (lines_after v base s.count) (omega (arith, sent, low))
    ∙ ap (λ (m : ℕ). take m xs) sent) in (
      omega (
        arith,
        sent,
        low,
        ap (λ (ys : List ℕ). length ys) split,
        length-append xs (lines_after v base s.count),
      ),
      ap (λ (t : Sending). t.log) is ∙ ap (λ (ys : List ℕ). write_failed (wrote log ys)) first,
    )
emits v base name pass new_name new_pass wire log (Err (Row fault)) new s =
    let xs : List ℕ = lines_to v base s.count in (
      length xs,
      ap (λ (t : Sending). t.log) s.ends.2
          ∙ ap (λ (ys : List ℕ). wrote log ys)
          (sym (ap (λ (ys : List ℕ). take (length xs) ys) (table_splits v base s.count s.few)
          ∙ take-append_seam xs (lines_after v base s.count))),
    )

-- and what its wire has taken once the writer is given up
pub emits_at : {X : Type 0} (log : X → WireLog) (v : Values) (base : List Slip) (name : GName) (pass : Holding)
    (new_name : GName) (new_pass : Holding) (result : Result ⊤ (RowsFault NextRowFault)) (first last after : X)
    (wire other : GName) (sent : ℕ) (old : Sending) → old ≡ record { wire = wire; log = log first; sent = 0 }
    → SendsLines v base name pass new_name new_pass result old (record { wire = other; log = log last; sent = sent })
    → (wire ≡ other → after ≡ last) → EmitsStudy (table_over v base) (emit_result_of result sent) (log first)
    (log after)
emits_at log v base name pass new_name new_pass result first last after wire other sent old fresh sends leaves =
    let new : Sending = record { wire = other; log = log last; sent = sent } in
    grind (arith, emits v base name pass new_name new_pass wire (log first) result new)
