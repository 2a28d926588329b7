use Rattle.std.proofs.Common.{◌≡◌, ℕ, suc, drop}
use Rattle.cut_plan.specs.Plan.{is_rising}
use Rattle.cut_fields.specs.Members.{item_numbers}
use Rattle.cut_plan.proofs.field_checks.are_rising.Given as goal

abbrev pub invariant-loop-i : goal.invariant-loop-i
invariant-loop-i l = (j : ℕ) → suc j ≡ l.i → is_rising (item_numbers l.items)
    ≡ is_rising (drop j (item_numbers l.items))
