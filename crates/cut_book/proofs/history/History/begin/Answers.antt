use Rattle.std.proofs.Common.{refl, arith}
use Rattle.cut_book.proofs.history.History.begin.Goals as goal

pub invariant_of-result : goal.invariant_of-result
invariant_of-result c = record {
  plan = rw (c.of.ensures, c.plan.ensures.value) c.plan.ensures.plan;
  legal = rw (c.new.ensures.items, c.in_ok-with_capacity.ensures.items) (_, refl);
  order = rw c.new.ensures.items (omega arith);
}
