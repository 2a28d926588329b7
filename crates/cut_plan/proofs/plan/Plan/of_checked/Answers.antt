use Rattle.std.proofs.Common.{arith, refl, sym, subst}
use Rattle.serde_json.specs.View.{view}
use Rattle.cut_fields.specs.declared.field.Field.TheVariants as field
use Rattle.cut_plan.specs.Plan.{IsPlan}
use Rattle.cut_plan.proofs.Checked.{checked_facts}
use Rattle.cut_plan.proofs.PlanFacts.{few_copies, few_liars, few_links, few_processes, few_repeats, plan_facts}
use Rattle.cut_plan.proofs.plan.Plan.of_checked.Goals as goal

pub overflow_cast-result : goal.overflow_cast-result
overflow_cast-result c = omega (arith, few_copies (view c.args.value.now) c.requires, c.number_at.ensures)

pub overflow_cast-result-2 : goal.overflow_cast-result-2
overflow_cast-result-2 c = omega (arith, few_liars (view c.args.value.now) c.requires, c.number_at-2.ensures)

pub overflow_cast-result-3 : goal.overflow_cast-result-3
overflow_cast-result-3 c = omega (arith, few_links (view c.args.value.now) c.requires, c.number_at-3.ensures)

pub overflow_cast-result-4 : goal.overflow_cast-result-4
overflow_cast-result-4 c = omega (arith, few_processes (view c.args.value.now) c.requires, c.number_at-4.ensures)

pub overflow_cast-result-5 : goal.overflow_cast-result-5
overflow_cast-result-5 c = omega (arith, few_repeats (view c.args.value.now) c.requires, c.number_at-5.ensures)

pub seed_at-requires : goal.seed_at-requires
seed_at-requires c = (checked_facts (view c.args.value.now) c.requires).ranges field.Seed refl

pub returns-clause-ok : goal.returns-clause-ok
returns-clause-ok c =
    grind arith

pub invariant_of-result : goal.invariant_of-result
invariant_of-result c =
    let d = view c.args.value.now in
    let plan = plan_facts d c.requires (sym c.in_ok-check_together.ensures) in
    let cells = rw (
      c.as_slice.ensures.value,
      c.as_slice-2.ensures.value,
      c.as_slice-3.ensures.value,
      c.as_slice-4.ensures.value,
    ) at c.in_ok-cells.ensures in
    record { plan = subst IsPlan (sym (returns-clause-ok c)) plan; cells = cells }
