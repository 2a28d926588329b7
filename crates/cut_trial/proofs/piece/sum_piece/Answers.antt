use Rattle.std.proofs.Common.{◌≡◌, ◌+◌, ◌-◌, ◌*◌, ◌^◌, ◌<◌, ◌≤◌, ℕ, sym, ap, ◌∙◌, arith}
use Rattle.cut_outcome.proofs.Words.{Cell, IsTrue, range_with_len, IsPlan, Values, cell_at, sum_of, is_piece}
use Rattle.cut_outcome.proofs.Words.{IsAtMost}
use Rattle.cut_plan.specs.Cells.{IsCellOf}
use Rattle.cut_outcome.specs.declared.piece.Piece.{Piece}
use Rattle.cut_outcome.proofs.Outcomes.{cell_read, possible_outcome}
use Rattle.cut_outcome.proofs.Pieces.{piece_facts}
use Rattle.cut_outcome.proofs.Sum.{sum_more, first_possible, few_in}
use Rattle.cut_trial.proofs.piece.sum_piece.Goals as goal

-- the sums over the first trials of a piece are small
few_first : (v : Values) (p : Piece) (n m : ℕ) → IsPlan v → (cell_at v p.first).k ≤ 32 → IsTrue (is_piece v p)
    → n ≤ p.count → 2048 * n ≤ m → IsAtMost m (sum_of v (range_with_len p.first n))
few_first v p n m plan rings piece within below =
    search (arith, few_in, first_possible)

-- the cell of the first trial is that of each
own_cell : (v w : Values) (p : Piece) (t : ℕ) (c : Cell) → IsTrue (is_piece v p) → p.first ≤ t
    → t < p.first + p.count → w ≡ v → c ≡ cell_at v p.first → c ≡ cell_at w t
own_cell v w p t c piece from below same is =
    grind (arith, piece_facts)

-- a cell of a plan has at most 32 rings
few_rings : (v : Values) (t : ℕ) (c : Cell) → IsPlan v → IsCellOf v c → c ≡ cell_at v t → (cell_at v t).k ≤ 32
few_rings v t c plan cell is =
    grind arith

pub cell_of-requires : goal.cell_of-requires
cell_of-requires c =
    grind arith

pub overflow_add-end : goal.overflow_add-end
overflow_add-end c =
    grind (arith, piece_facts)

pub loop-trial-init : goal.loop-trial-init
loop-trial-init c =
    let none : 0 ≡ c.args.piece.first - c.args.piece.first = omega arith in
    record {
      totals = ap (λ n. sum_of c.args.study.plan.now (range_with_len c.args.piece.first n)) none;
      plan = c.in_ok-trials.ensures.study;
      cell = c.in_ok-trials.ensures.cell
          ∙ cell_read c.args.study.plan.now c.args.piece.first c.cell_of.result c.cell-cell.result
          c.cell-cell.ensures.value c.cell_of.ensures.value;
    }

pub run-requires : goal.run-requires
run-requires c =
    search (arith, own_cell)

pub plus-totals-requires-clause-self_fits : goal.plus-totals-requires-clause-self_fits
plus-totals-requires-clause-self_fits c =
    rw c.loop-trial.invariant.totals
    (few_first c.args.study.plan.now c.args.piece (c.loop-trial.trial - c.args.piece.first) (2 ^ 43)
    c.args.study.accepted
    (few_rings c.args.study.plan.now c.args.piece.first c.cell-cell.result c.args.study.accepted
    c.cell-cell.ensures.cell
    (cell_read c.args.study.plan.now c.args.piece.first c.cell_of.result c.cell-cell.result
    c.cell-cell.ensures.value c.cell_of.ensures.value))
    c.requires (omega arith) (omega arith))

pub plus-totals-requires-clause-other_fits : goal.plus-totals-requires-clause-other_fits
plus-totals-requires-clause-other_fits c =
    let alerts = c.loop-trial.trials.alerts in
    let v : Values = alerts.study.plan.now in
    let t : ℕ = c.loop-trial.trial in
    rw c.in_ok-run.ensures.outcome
    (few_in v (cell_at v t) 1 (2 ^ 43) _ alerts.study.accepted
    (few_rings v t alerts.cell alerts.study.accepted alerts.cell_of_plan
    (own_cell c.args.study.plan.now v c.args.piece t alerts.cell c.requires (omega arith) (omega arith)
    c.loop-trial.invariant.plan c.loop-trial.invariant.cell))
    (possible_outcome v t) (omega arith))

pub loop-trial-preserved : goal.loop-trial-preserved
loop-trial-preserved c =
    let n : ℕ = c.loop-trial.trial - c.args.piece.first in
    let n_more : c.loop-trial.trial + 1 - c.args.piece.first ≡ n + 1 = omega arith in
    let held = c.loop-trial.invariant in
    record {
      totals = c.plus-totals.ensures
          ∙ rw (held.totals, c.in_ok-run.ensures.outcome, held.plan, n_more)
          (sym (sum_more c.args.study.plan.now c.args.piece.first n c.loop-trial.trial (omega arith)));
      plan = ap (λ s. s.plan.now) c.run.ensures.study ∙ held.plan;
      cell = c.run.ensures.cell ∙ held.cell;
    }

pub returns-clause-value : goal.returns-clause-value
returns-clause-value c =
    let all : c.loop-trial.trial - c.args.piece.first ≡ c.args.piece.count = omega arith in
    rw all at c.loop-trial.invariant.totals

pub returns-clause-few : goal.returns-clause-few
returns-clause-few c =
    let all : c.loop-trial.trial - c.args.piece.first ≡ c.args.piece.count = omega arith in
    rw (c.loop-trial.invariant.totals, all)
    (few_first c.args.study.plan.now c.args.piece c.args.piece.count (2048 * c.args.piece.count)
    c.args.study.accepted
    (few_rings c.args.study.plan.now c.args.piece.first c.cell-cell.result c.args.study.accepted
    c.cell-cell.ensures.cell
    (cell_read c.args.study.plan.now c.args.piece.first c.cell_of.result c.cell-cell.result
    c.cell-cell.ensures.value c.cell_of.ensures.value))
    c.requires (omega arith) (omega arith))
