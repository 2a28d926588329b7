use Rattle.std.proofs.Common.{◌≡◌, ◌∙◌, Bool, true, false, not, refl, sym, ap, arith}
use Rattle.std.proofs.Math.Bool.{beq}
use Rattle.cut_lists.proofs.Intervals.{list_all_passing, list_all_failing}
use Rattle.cut_sets.specs.ranges.inside.Edges.{flipped}
use Rattle.cut_sets.specs.ranges.Held.{has}
use Rattle.cut_sets.proofs.ranges.range_set.RangeSet.is_all.Goals as goal

-- a truth value is the expected one, or it isn't
other : (wanted b : Bool) → not (beq b wanted) ≡ true → flipped (not wanted) b ≡ false
other true true differ = cc
other true false differ = refl
other false true differ = refl
other false false differ = cc

pub returns-then-run-held : goal.returns-then-run-held
returns-then-run-held c =
    let run = c.run_at-run.ensures.run in
    let low = c.loop-from.invariant.low in
    sym (list_all_failing (λ t. flipped (not c.args.held) (has c.args.self.now t)) c.args.span.first c.args.span.count
    c.loop-from.from low (omega arith)
    (ap (flipped (not c.args.held)) (run.lasts c.loop-from.from (omega arith) run.longer)
    ∙ other c.args.held c.run_at-run.result.held c.if-run-held.true))

pub loop-from-preserved : goal.loop-from-preserved
loop-from-preserved c =
    grind arith

pub returns : goal.returns
returns c =
    grind (arith, list_all_passing)
