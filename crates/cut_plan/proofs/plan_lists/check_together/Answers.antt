use Rattle.std.proofs.Common.{arith}
use Rattle.cut_plan.specs.Accepted.{limit_check}
use Rattle.cut_plan.proofs.PlanFacts.{few_f, few_h, few_k, few_l, few_liars, few_links}
use Rattle.cut_plan.proofs.plan_lists.check_together.Goals as goal

pub count_cells-cells-requires : goal.count_cells-cells-requires
count_cells-cells-requires c =
    grind (arith, few_f, few_h, few_k, few_l)

pub overflow_add-faults : goal.overflow_add-faults
overflow_add-faults c =
    grind (arith, few_liars)

pub overflow_add-faults-2 : goal.overflow_add-faults-2
overflow_add-faults-2 c =
    grind (arith, few_liars, few_links)

pub returns : goal.returns
unfolding limit_check
returns c =
    search (
      arith,
      c.requires.lists.f,
      c.requires.lists.h,
      c.requires.lists.k,
      c.requires.lists.l,
      c.count_cells-cells.ensures,
      c.largest-most_failed.ensures,
      c.as_slice.ensures.value,
      c.check_limits.ensures,
      c.from.ensures,
      c.number_at-liars.ensures,
      c.number_at-links.ensures,
      c.number_at.ensures,
    )
