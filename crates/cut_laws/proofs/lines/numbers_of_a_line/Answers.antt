use Rattle.std.proofs.Common.{◌≡◌, ◌*◌, ◌-◌, ◌/◌, ◌<◌, ◌≤◌, arith, refl, subst}
use Rattle.std.proofs.lemmas.List.FromFn.{length-range_with_len}
use Rattle.cut_outcome.specs.Sum.{trials_of_cell}
use Rattle.cut_laws.specs.Columns.{IsRightUnlessLost}
use Rattle.cut_laws.specs.Lines.{cell_of_line, line_at}
use Rattle.cut_laws.specs.OneCrash.{AreOneCrash}
use Rattle.cut_laws.proofs.CellTrials.{each_of_line}
use Rattle.cut_laws.proofs.lines.numbers_of_a_line.Goals as goal

pub returns-clause-each : goal.returns-clause-each
returns-clause-each c = λ v i line.
    let f = (cell_of_line v i).f in record {
      wrong = c.wrong_decisions_need_a_wrong_quorum.ensures.sums v (trials_of_cell v i);
      votes = c.the_others_are_right.ensures.sums v (trials_of_cell v i);
      right = subst (λ n. IsRightUnlessLost v.nodes f n (line_at v i)) (length-range_with_len (i * v.repeats) v.repeats)
          (c.the_others_are_right.ensures.right v f (trials_of_cell v i) (λ k d below.
          (each_of_line v i (λ cell. cell.f ≡ f) line refl k d below).1));
    }

pub returns-clause-failed : goal.returns-clause-failed
returns-clause-failed c = λ v i line lost.
    c.too_few_voters_decide_nothing.ensures.sums v (trials_of_cell v i) (omega (arith, line.plan.some_nodes))
    (λ k d below. (each_of_line v i (λ cell. (v.nodes - 1) / 4 < cell.f) line lost k d below).1)

pub returns-clause-none : goal.returns-clause-none
returns-clause-none c = λ v i line none.
    c.no_targets_leave_no_conflicts.ensures.sums v (trials_of_cell v i) (omega (arith, line.plan.some_nodes))
    (λ k d below. (each_of_line v i (λ cell. cell.f ≡ 0) line none k d below).1)

pub returns-clause-one_crash : goal.returns-clause-one_crash
returns-clause-one_crash c = λ v i line only one.
    subst (λ n. AreOneCrash v.nodes n (line_at v i)) (length-range_with_len (i * v.repeats) v.repeats)
    (c.one_crash_is_found.ensures.sums v (trials_of_cell v i) line.plan only (λ k d below.
    (let is = each_of_line v i (λ cell. cell.f ≡ 1) line one k d below in record { inside = is.0; one = is.1 })))

pub returns-clause-settled : goal.returns-clause-settled
returns-clause-settled c = λ v i line only two one.
    let h = (cell_of_line v i).h in
    c.one_crash_is_settled_by_h.ensures.sums v h (trials_of_cell v i) line.plan only two (λ k d below.
    (let is = each_of_line v i (λ cell. cell.f ≡ 1) line one k d below in
    let same = each_of_line v i (λ cell. cell.h ≡ h) line refl k d below in
    (record { inside = is.0; one = is.1 }, same.1)))

pub returns-clause-no_gap : goal.returns-clause-no_gap
returns-clause-no_gap c = λ v i line equal two.
    c.equal_watermarks_split_failures.ensures.sums v (trials_of_cell v i) line.plan (λ k d below.
    (let gap = each_of_line v i (λ cell. cell.l ≡ cell.h) line equal k d below in
    let many = each_of_line v i (λ cell. 2 ≤ cell.f) line two k d below in
    (record { inside = gap.0; equal = gap.1 }, many.1)))
