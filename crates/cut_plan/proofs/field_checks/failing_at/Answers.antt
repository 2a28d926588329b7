use Rattle.std.proofs.Common.{arith}
use Rattle.cut_plan.proofs.PlanFacts.{deaf_below}
use Rattle.cut_plan.proofs.field_checks.failing_at.Goals as goal

pub overflow_cast-result : goal.overflow_cast-result
overflow_cast-result c =
    grind (arith, deaf_below)
