use Rattle.std.proofs.Common.{◌≡◌, ◌∙◌, ◌≤◌, ◌+◌, ◌++◌, ◌∷◌, [], ℕ, List, length, take, ap, zero-add, arith}
use Rattle.std.proofs.Common.{append_assoc, append-nil}
use Rattle.std.proofs.lemmas.List.Concat.{flat_map-append}
use Rattle.std.proofs.lemmas.List.FromFn.{length-range_with_len}
use Rattle.std.proofs.lemmas.List.Sums.{prefix_len-le-length}
use Rattle.cut_lists.proofs.Intervals.{take_range}
use Rattle.cut_lists.proofs.Ranges.{range_with_len_more}
use Rattle.cut_ledger.proofs.Words.{Contents, Totals, Values, cell_done, cell_sum, cells_of, flat_map, header}
use Rattle.cut_ledger.proofs.Words.{line_with, prefix_len, range_with_len}
use Rattle.cut_plan.specs.Failing.{version_of}
use Rattle.cut_ledger.proofs.available.available.Goals as goal

-- how many of the first cells are done
in_prefix : (l : Contents) (k : ℕ) → k ≡ prefix_len (cell_done l) (range_with_len 0 (length (cells_of l.plan))) → k
    ≤ length (cells_of l.plan)
in_prefix l k is = grind (arith, prefix_len-le-length, length-range_with_len)

pub cell_sum-requires : goal.cell_sum-requires
cell_sum-requires c = grind (arith, in_prefix)

pub cell_line-requires-clause-number : goal.cell_line-requires-clause-number
cell_line-requires-clause-number c = grind (arith, in_prefix)

pub loop-cell-preserved : goal.loop-cell-preserved
loop-cell-preserved c =
    let l : Contents = c.args.ledger.now.contents in
    let f : ℕ → List ℕ = λ i. line_with l.plan i (cell_sum l i) in
    let n : ℕ = c.loop-cell.cell in
    let more : flat_map f (range_with_len 0 (n + 1)) ≡ flat_map f (range_with_len 0 n) ++ f n =
    rw (range_with_len_more 0 n n (zero-add n), flat_map-append f (range_with_len 0 n) (n ∷ []), append-nil (f n)) in
    let line : c.as_slice.result.now ≡ f n = c.as_slice.ensures.value ∙ c.in_ok-line.ensures.line
    ∙ ap (λ (v : Values). line_with v n c.cell_sum.result) c.plan-in-loop-cell.ensures.value
    ∙ ap (λ (x : Totals). line_with l.plan n x) c.cell_sum.ensures.value in
    c.in_ok-extend_from_slice.ensures.items
    ∙ rw (c.loop-cell.invariant, line, more)
    (append_assoc (header (version_of l.plan.failing)) (flat_map f (range_with_len 0 n)) (f n))

pub returns : goal.returns
returns c =
    let l : Contents = c.args.ledger.now.contents in
    let n : ℕ = length (cells_of l.plan) in
    let k : ℕ = c.cells_done-cell-end.result in
    let all : c.loop-cell.cell ≡ k = omega (arith, c.loop-cell-test.false, c.loop-cell.auto.cell-end) in
    let prefix : range_with_len 0 c.loop-cell.cell
    ≡ take (prefix_len (cell_done l) (range_with_len 0 n)) (range_with_len 0 n) =
    rw (all, ← take_range 0 n k (in_prefix l k c.cells_done-cell-end.ensures), c.cells_done-cell-end.ensures) in
    c.loop-cell.invariant ∙ rw prefix
