use Rattle.cut_plan.specs.Plan.{is_within}
use Rattle.cut_plan.proofs.Rising.{numbers_pass}
use Rattle.cut_plan.proofs.field_checks.are_in_scale.Goals as goal

pub returns-then-not-is_empty : goal.returns-then-not-is_empty
returns-then-not-is_empty c = numbers_pass (is_within 1 32) _ _ _ c.is_empty.ensures c.if-not-is_empty.true
    c.all_in_scale.ensures
