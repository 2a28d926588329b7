use Rattle.std.proofs.Common.{◌≡◌, take}
use Rattle.cut_fields.specs.Members.{item_numbers}
use Rattle.cut_plan.proofs.plan_lists.shorts.Given as goal

abbrev pub invariant-loop-i : goal.invariant-loop-i
invariant-loop-i l = l.numbers.items ≡ take l.i (item_numbers l.items)
