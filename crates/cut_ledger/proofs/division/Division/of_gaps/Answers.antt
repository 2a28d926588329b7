use Rattle.std.proofs.Common.{◌≡◌, ◌∙◌, arith}
use Rattle.std.proofs.lemmas.Grind.{take_at_read}
use Rattle.std.proofs.lemmas.List.{length-map, length-take-le, map-append, take_all}
use Rattle.cut_ledger.specs.inside.DivisionInside.{gaps_in}
use Rattle.cut_ledger.proofs.DivisionLemmas.{counted_push, few_before, one_gap}
use Rattle.cut_ledger.proofs.division.Division.of_gaps.Goals as goal

pub overflow_add-end : goal.overflow_add-end
overflow_add-end c = grind (arith, few_before)

pub loop-gap-preserved : goal.loop-gap-preserved
loop-gap-preserved c =
    grind (arith, map-append, take_at_read, one_gap, length-map, length-take-le, take_all, counted_push)

-- all gaps are there
all_gaps : (c : goal.After-loop-gap) → gaps_in c.loop-gap.stretches.items ≡ c.args.gaps.now
all_gaps c = c.loop-gap.invariant.gaps ∙ take_all c.loop-gap.gap-index c.args.gaps.now c.loop-gap-test.false

pub invariant_of-result : goal.invariant_of-result
invariant_of-result c = grind arith

pub returns : goal.returns
returns c = rw (all_gaps c)
