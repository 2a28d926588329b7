-- The lines of a table, as they are written one after the other.
use Rattle.std.proofs.Common.{◌≡◌, ◌∙◌, ◌<◌, ◌≤◌, ◌+◌, ◌-◌, ◌*◌, ◌^◌, ◌++◌, [], min, ℕ, zero, suc, true, false}
use Rattle.std.proofs.Common.{Result, Ok, Err, inl, inr}
use Rattle.std.proofs.Common.{List, length, take, drop, refl, sym, ap, zero-add, arith, append_assoc}
use Rattle.std.proofs.Common.{append-nil, length-append, length-take-le}
use Rattle.std.specs.Bool.{⊤}
use Rattle.std.specs.Borrow.{GName}
use Rattle.std.specs.List.{range_with_len, take_while, flat_map}
use Rattle.std.proofs.lemmas.Bool.{cases_lt}
use Rattle.std.proofs.lemmas.List.{take-append-le, take_all}
use Rattle.std.proofs.lemmas.List.Concat.{flat_map-append}
use Rattle.std.proofs.lemmas.List.FromFn.{length-range_with_len, get_or-range_with_len}
use Rattle.std.proofs.Math.Seq.{take-append_seam}
use Rattle.cut_lists.proofs.Prefixes.{take_while-prefix}
use Rattle.cut_lists.proofs.Intervals.{take_range, drop_range}
use Rattle.cut_plan.specs.Cells.{cells_of}
use Rattle.cut_plan.specs.Failing.{version_of}
use Rattle.cut_ledger.specs.lines.Lines.{header}
use Rattle.cut_ledger.specs.Contents.{Contents, cell_done}
use Rattle.cut_ledger.specs.Machine.{available}
use Rattle.cut_wires.specs.declared.rows.RowsFault.{RowsFault}
use Rattle.cut_wires.specs.declared.rows.RowsFault.TheVariants.{Row, Write}
use Rattle.cut_wires.specs.Log.{WireLog, wrote, write_failed}
use Rattle.cut_wires.specs.Rows.{SendsRows, rows_to}
use Rattle.cut_wires.specs.Sending.{Sending}
use Rattle.cut_wires.proofs.RowLemmas.{rows_more}
use Rattle.cut_table.specs.declared.fault.RowFault.{RowFault}
use Rattle.cut_table.specs.declared.fault.RowFault.TheVariants as row
use Rattle.cut_table.specs.Table.{row_of, Emits}
use Rattle.cut_table.specs.inside.Table.{table_of, AreGiven, IsWithheld, table_result_of}

-- the header and the lines of the first n cells
abbrev pub lines_to : Contents → ℕ → List ℕ
lines_to l n = rows_to (λ text. text) (table_of l) n

-- the lines of the done cells that come after the first n, which are done
abbrev lines_after : Contents → ℕ → List ℕ
lines_after l n = flat_map (row_of l) (take_while (cell_done l) (range_with_len n (length (cells_of l.plan) - n)))

available_splits : (l : Contents) (n : ℕ) → n ≤ length (cells_of l.plan)
    → ((k : ℕ) → k < n → cell_done l k ≡ true) → available l ≡ lines_to l n ++ lines_after l n
available_splits l n few done =
    let all : ℕ = length (cells_of l.plan) in
    let first : List ℕ = header (version_of l.plan.failing) in
    let others : List ℕ = take_while (cell_done l) (range_with_len n (all - n)) in
    let split : take_while (cell_done l) (range_with_len 0 all) ≡ range_with_len 0 n ++ others =
    take_while-prefix (cell_done l) 0 (range_with_len 0 all) n
    (omega (arith, few, length-range_with_len 0 all))
    (λ k low. ap (cell_done l) (get_or-range_with_len 0 all k 0 (omega (arith, low, few)) ∙ zero-add k)
    ∙ done k low)
    ∙ ap (λ xs. xs ++ take_while (cell_done l) (drop n (range_with_len 0 all))) (take_range 0 all n few)
    ∙ ap (λ xs. range_with_len 0 n ++ take_while (cell_done l) xs) (drop_range 0 all n few
    ∙ ap (λ b. range_with_len b (all - n)) (zero-add n)) in
    ap (λ cells. first ++ flat_map (row_of l) cells) split
    ∙ ap (λ xs. first ++ xs) (flat_map-append (row_of l) (range_with_len 0 n) others)
    ∙ sym (append_assoc first (flat_map (row_of l) (range_with_len 0 n)) (flat_map (row_of l) others))

none_after : (l : Contents) (n m : ℕ) → (0 < m → cell_done l n ≡ false)
    → flat_map (row_of l) (take_while (cell_done l) (range_with_len n m)) ≡ []
none_after l n zero undone = refl
none_after l n (suc m) undone =
    grind arith

-- up to the first cell that is not done, these are all
available_ends : (l : Contents) (n : ℕ) → n ≤ length (cells_of l.plan)
    → ((k : ℕ) → k < n → cell_done l k ≡ true) → (n < length (cells_of l.plan) → cell_done l n ≡ false)
    → available l ≡ lines_to l n
available_ends l n few done undone =
    available_splits l n few done
    ∙ ap (λ xs. lines_to l n ++ xs)
    (none_after l n (length (cells_of l.plan) - n) (λ some. undone (omega (arith, some))))
    ∙ append-nil (lines_to l n)

-- a line has its line feed
some_line : (l : Contents) (n : ℕ) → 0 < length (row_of l n)
some_line l n =
    grind (arith, length-append)

-- and that of a done cell comes after those before it
longer : (l : Contents) (n : ℕ) → n < length (cells_of l.plan) → ((k : ℕ) → k < n → cell_done l k ≡ true)
    → cell_done l n ≡ true → length (lines_to l n) < length (available l)
longer l n low before here =
    let done : (k : ℕ) → k < n + 1 → cell_done l k ≡ true = λ k below. elim (cases_lt k n) [
      | inl less ↦ before k less
      | inr last ↦ (let same : k ≡ n = omega arith in ap (λ i. cell_done l i) same ∙ here)
    ] in
    omega (
      arith,
      some_line l n,
      ap (λ (xs : List ℕ). length xs) (available_splits l (n + 1) (omega (arith, low)) done),
      length-append (lines_to l (n + 1)) (lines_after l (n + 1)),
      ap (λ (xs : List ℕ). length xs) (rows_more (λ text. text) (table_of l) n),
      length-append (lines_to l n) (row_of l n),
    )

-- ---- how the writing ended

-- the count is exact: as many bytes were sent as are written of the lines
sent_first : (l : Contents) (n k : ℕ) → n ≤ length (cells_of l.plan) → length (cells_of l.plan) < 2 ^ 32
    → length (lines_to l n) ≤ (n + 1) * 299 → k ≤ length (lines_to l n)
    → min (0 + length (take k (lines_to l n))) (2 ^ 64 - 1) ≡ k
sent_first l n k few rows short low = omega (arith, few, rows, short, low, length-take-le k (lines_to l n) low)

-- lines of a ledger's cells were sent
abbrev pub SendsLines : Contents → Contents → Result ⊤ (RowsFault RowFault) → Sending → Sending → Type 0
SendsLines l now result old new =
    SendsRows (λ text. text) (table_of l) (λ n. AreGiven l n now) (λ n fault. IsWithheld l n fault now) result old new

-- what a wire took of a table, by what was sent of its rows by a counting writer that had sent nothing
emits : (l now : Contents) (name : GName) (log : WireLog) (result : Result ⊤ (RowsFault RowFault)) (new : Sending)
    → SendsLines l now result (record { wire = name; log = log; sent = 0 }) new
    → Emits l (table_result_of result new.sent) log new.log
emits l now name log (Ok done) new s =
    grind (arith, available_ends l s.count s.few s.ends.1.done)
emits l now name log (Err (Write fault)) new s =
    let (count, (k, low, is)) = s.ends.1 in
    let split : available l ≡ lines_to l s.count ++ lines_after l s.count =
    available_splits l s.count s.few s.ends.0.done in
    let sent : fault.sent ≡ k =
    count ∙ ap (λ (t : Sending). t.sent) is ∙ sent_first l s.count k s.few s.rows s.short (omega (arith, low)) in
    let first : take k (lines_to l s.count) ≡ take fault.sent (available l) =
    sym (ap (λ (xs : List ℕ). take fault.sent xs) split
    ∙ take-append-le fault.sent (lines_to l s.count) (lines_after l s.count) (omega (arith, sent, low))
    ∙ ap (λ (m : ℕ). take m (lines_to l s.count)) sent) in (
      omega (
        arith,
        sent,
        low,
        ap (λ (xs : List ℕ). length xs) split,
        length-append (lines_to l s.count) (lines_after l s.count),
      ),
      ap (λ (t : Sending). t.log) is ∙ ap (λ (xs : List ℕ). write_failed (wrote log xs)) first,
    )
emits l now name log (Err (Row (row.NotDone cell))) new s =
    let (given, why) = s.ends.1 in
    grind (arith, available_ends l s.count s.few given.done)
emits l now name log (Err (Row row.Memory)) new s =
    let (given, done) = s.ends.1 in
    let xs : List ℕ = lines_to l s.count in
    let sent : new.sent ≡ length xs =
    ap (λ (t : Sending). t.sent) s.ends.2
    ∙ ap (λ (ys : List ℕ). min (0 + length ys) (2 ^ 64 - 1)) (sym (take_all (length xs) xs (omega arith)))
    ∙ sent_first l s.count (length xs) s.few s.rows s.short (omega arith) in
    let first : xs ≡ take new.sent (available l) =
    sym (ap (λ (ys : List ℕ). take new.sent ys) (available_splits l s.count s.few given.done)
    ∙ ap (λ (m : ℕ). take m (xs ++ lines_after l s.count)) sent ∙ take-append_seam xs (lines_after l s.count)) in (
      omega (arith, sent, longer l s.count s.ends.0 given.done done),
      ap (λ (t : Sending). t.log) s.ends.2 ∙ ap (λ (ys : List ℕ). wrote log ys) first,
    )

-- and what its wire has taken once the writer is given up
pub emits_at : {X : Type 0} (log : X → WireLog) (l now : Contents) (result : Result ⊤ (RowsFault RowFault))
    (first last after : X) (name other : GName) (sent : ℕ) (old : Sending)
    → old ≡ record { wire = name; log = log first; sent = 0 }
    → SendsLines l now result old (record { wire = other; log = log last; sent = sent })
    → (name ≡ other → after ≡ last) → Emits l (table_result_of result sent) (log first) (log after)
emits_at log l now result first last after name other sent old fresh sends leaves =
    let new : Sending = record { wire = other; log = log last; sent = sent } in
    grind (arith, emits l now name (log first) result new)
