use Rattle.std.proofs.Common.{◌≡◌}
use Rattle.cut_outcome.specs.Sum.{trials_of_cell}
use Rattle.cut_laws.proofs.CellTrials.{each_of_line}
use Rattle.cut_laws.proofs.lines.same_line_of_two_tables.Goals as goal

pub returns-clause-implicit : goal.returns-clause-implicit
returns-clause-implicit c = λ v implicit i line equal.
    c.implicit_alerts_change_nothing.ensures.sums v implicit (trials_of_cell v i) (λ k d below.
    (each_of_line v i (λ cell. cell.l ≡ cell.h) line equal k d below).1)

pub returns-clause-high : goal.returns-clause-high
returns-clause-high c = λ v x y i may. (c.a_higher_h_waits_longer.ensures v x y may).sums (trials_of_cell v i)

pub returns-clause-low : goal.returns-clause-low
returns-clause-low c = λ v x y i may. (c.a_lower_l_waits_longer.ensures v x y may).sums (trials_of_cell v i)
