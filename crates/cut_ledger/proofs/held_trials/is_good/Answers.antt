-- A slip is good where all three tests pass, each of which is one of its parts.
use Rattle.std.proofs.Common.{sym, ◌∙◌}
use Rattle.std.proofs.lemmas.Bool.{not-true, not-false, both_ways}
use Rattle.cut_ledger.proofs.SlipLemmas.{good_is, not_good}
use Rattle.cut_ledger.proofs.held_trials.is_good.Goals as goal
use Rattle.cut_ledger.proofs.held_trials.is_good.Goals.{then-is_piece, else-is_piece}

pub returns-then-not-overlaps-clause-good : goal.returns-then-not-overlaps-clause-good
returns-then-not-overlaps-clause-good c = λ earlier exactly. elim c.if-is_piece.branch [
  | then-is_piece w ↦ good_is c.args.plan.now earlier c.args.trials.now c.args.slip.now
      c.is_possible.result exactly (sym w.if-is_piece.ensures.value)
      (sym w.overlaps.ensures ∙ not-true w.overlaps.result (sym w.value-is ∙ c.if-not-overlaps.true))
      c.is_possible.ensures.possible
  | else-is_piece w ↦ absurd (both_ways c.is_piece.result w.if-is_piece.false (sym w.value-is ∙ c.if-not-overlaps.true))
]

pub returns-else-not-overlaps-clause-good : goal.returns-else-not-overlaps-clause-good
returns-else-not-overlaps-clause-good c = λ earlier exactly. (
  λ e. absurd (both_ways c.if-is_piece.value c.if-not-overlaps.false e),
  λ good. elim c.if-is_piece.branch [
    | then-is_piece w ↦ absurd (not_good c.args.plan.now earlier c.args.trials.now c.args.slip.now exactly
        (sym w.overlaps.ensures ∙ not-false w.overlaps.result (sym w.value-is ∙ c.if-not-overlaps.false)) good)
    | else-is_piece w ↦ absurd (both_ways c.is_piece.result w.if-is_piece.false (c.is_piece.ensures.value ∙ good.piece))
  ],
)
