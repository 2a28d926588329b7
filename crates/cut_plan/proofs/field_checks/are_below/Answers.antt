use Rattle.std.proofs.Common.{nat_lt}
use Rattle.cut_plan.proofs.Rising.{numbers_pass}
use Rattle.cut_plan.proofs.field_checks.are_below.Goals as goal

pub returns-then-not-is_empty : goal.returns-then-not-is_empty
returns-then-not-is_empty c = numbers_pass (λ x. nat_lt x c.args.bound) _ _ _ c.is_empty.ensures c.if-not-is_empty.true
    c.all_below.ensures
