use Rattle.std.proofs.Common.{ap, ◌∙◌}
use Rattle.cut_outcome.specs.Computed.{Computed}
use Rattle.cut_outcome.specs.Sum.{sum_of, trials_in}
use Rattle.cut_migration.proofs.Truths.{is_true_by_numbers}
use Rattle.cut_migration.proofs.migration.is_true.Goals as goal

pub returns : goal.returns
returns c =
    let target = c.args.target in
    is_true_by_numbers target.plan.now target.runner.plan.now c.args.slip.now c.totals.result c.are_same.result
    c.pieces_have_possible_totals.ensures.pieces c.upgrades_keep_outcomes.ensures.sums target.accepted target.version
    target.upgrade_of c.requires.piece
    (c.totals.ensures.value ∙ ap (λ (r : Computed). sum_of r.plan (trials_in r.piece)) c.requires.found)
    c.are_same.ensures
