use Rattle.cut_outcome.proofs.Upgrades.{keep_outcomes, keep_sums}
use Rattle.cut_outcome.proofs.laws.upgrades_keep_outcomes.Goals as goal

pub returns-clause-trials : goal.returns-clause-trials
returns-clause-trials c =
    keep_outcomes c.cells_are_the_combinations.ensures c.upgrades_fail_alike.ensures.deaf
    c.as_many_deaf_draw_alike.ensures.alike

pub returns-clause-sums : goal.returns-clause-sums
returns-clause-sums c =
    keep_sums (keep_outcomes c.cells_are_the_combinations.ensures c.upgrades_fail_alike.ensures.deaf
    c.as_many_deaf_draw_alike.ensures.alike)
