use Rattle.std.proofs.lemmas.Grind.{common_steps}
use Rattle.std.proofs.Common.{◌≡◌, ◌∙◌, ◌≤◌, ◌+◌, ◌++◌, ℕ, List, Err, length, ap, sym, subst, arith}
use Rattle.cut_wires.specs.Rows.{Table, rows_to}
use Rattle.cut_wires.specs.Sending.{Sending, Sends, sending}
use Rattle.cut_wires.proofs.RowLemmas.{rows_more, short_more, header_only}
use Rattle.cut_wires.proofs.Sendings.{sends_after}
use Rattle.cut_wires.proofs.rows.send_rows.Goals as goal

-- a row that was given is one of the table's
same_row : (old new : Table) (slice items : List ℕ) (n : ℕ) → new ≡ old → slice ≡ items → items ≡ new.row n
    → slice ≡ old.row n
same_row old new slice items n same is row = is ∙ row ∙ ap (λ (t : Table). t.row n) same

-- framed, it is not too long
framed_row : (framed : List ℕ → List ℕ) (old new : Table) (items : List ℕ) (n : ℕ)
    → ((text : List ℕ) → length (framed text) ≤ length text + 5) → new ≡ old → items ≡ new.row n
    → length items ≤ new.longest → length (framed (old.row n)) ≤ old.longest + 5
framed_row framed old new items n law same row few =
    grind arith

pub returns-in-Err : goal.returns-in-Err
returns-in-Err g c =
    let framed = g.F.Encoding.framed in
    let t : Table = g.R.RowSource.table c.args.rows.now in
    let writer : Sending = sending g.W.Wire.log c.args.writer.now in
    let new : Sending = sending g.W.Wire.log c.send.new.writer in
    let header : framed c.header.result.now ≡ rows_to framed t 0 =
    ap framed c.header.ensures.text ∙ sym (header_only framed t) in
    record {
      count = 0;
      few = omega arith;
      rows = omega (arith, c.count-count.ensures);
      short = omega (
        arith,
        g.met.F.Encoding.short c.header.result.now,
        c.header.ensures.short,
        ap (λ (l : List ℕ). length l) header,
      );
      ends = (
        g.met.R.RowSource.begins c.args.rows.now,
        subst (λ (l : List ℕ). Sends (Err c.in-Err.fault) l writer new) header c.in-Err.ensures,
      );
    }

pub loop-place-preserved : goal.loop-place-preserved
loop-place-preserved g c =
    grind (
      arith,
      common_steps,
      framed_row,
      rows_more,
      c.in-Ok-row.ensures.row,
      c.loop-place.invariant.given,
      c.loop-place.invariant.same,
      c.in-Ok-row.ensures.same,
      c.loop-place.invariant.short,
      c.loop-place.invariant.sent,
    )

pub returns-in-Err-send : goal.returns-in-Err-send
returns-in-Err-send g c =
    let framed = g.F.Encoding.framed in
    let t : Table = g.R.RowSource.table c.args.rows.now in
    let n : ℕ = c.loop-place.place in
    let gives = c.in-Ok-row.ensures.row c.args.rows.now c.loop-place.invariant.given in
    let row = same_row t (g.R.RowSource.table c.loop-place.rows) c.as_slice.result.now c.in-Ok-row.text.items n
    c.loop-place.invariant.same c.as_slice.ensures.value gives.0 in
    let writer : Sending = sending g.W.Wire.log c.args.writer.now in
    let new : Sending = sending g.W.Wire.log c.send-in-loop-place.new.writer in
    record {
      count = n + 1;
      few = omega (arith, c.loop-place-test.true, c.count-count.ensures);
      rows = omega (arith, c.count-count.ensures);
      short = short_more framed t n c.loop-place.invariant.short
          (framed_row framed t (g.R.RowSource.table c.loop-place.rows) c.in-Ok-row.text.items n g.met.F.Encoding.short
          c.loop-place.invariant.same gives.0 gives.1);
      ends = (
        gives.2,
        subst (λ (xs : List ℕ). Sends (Err c.in-Err-send.fault) xs writer new)
            (ap (λ xs. rows_to framed t n ++ framed xs) row ∙ sym (rows_more framed t n))
            (sends_after (Err c.in-Err-send.fault) writer (sending g.W.Wire.log c.loop-place.writer) new
            (rows_to framed t n) (framed c.as_slice.result.now) c.loop-place.invariant.sent c.in-Err-send.ensures),
      );
    }
