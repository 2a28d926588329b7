use Rattle.std.proofs.Common.{◌≡◌, ◌++◌, take}
use Rattle.std.specs.List.{flat_map}
use Rattle.cut_plan.specs.Cells.{cells_under_h}
use Rattle.cut_plan.proofs.combinations.add_highs.Given as goal

abbrev pub invariant-loop-high : goal.invariant-loop-high
invariant-loop-high l = l.cells.items ≡ l.fn.cells.items
    ++ flat_map (λ h. cells_under_h l.l l.f l.k h) (take l.high-index l.h)
