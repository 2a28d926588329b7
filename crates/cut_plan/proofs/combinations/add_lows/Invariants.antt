use Rattle.std.proofs.Common.{◌≡◌, ◌++◌, take}
use Rattle.std.specs.List.{flat_map}
use Rattle.cut_plan.specs.Cells.{cells_at}
use Rattle.cut_plan.proofs.combinations.add_lows.Given as goal

abbrev pub invariant-loop-low : goal.invariant-loop-low
invariant-loop-low l = l.cells.items ≡ l.fn.cells.items ++ flat_map (λ x. cells_at l.f l.k l.h x) (take l.low-index l.l)
