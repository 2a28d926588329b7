use Rattle.std.proofs.Common.{◌≡◌, take}
use Rattle.std.specs.List.{flat_map}
use Rattle.cut_plan.specs.Cells.{cells_under_k}
use Rattle.cut_plan.proofs.combinations.combine.Given as goal

abbrev pub invariant-loop-rings : goal.invariant-loop-rings
invariant-loop-rings l = l.cells.items ≡ flat_map (λ k. cells_under_k l.h l.l l.f k) (take l.rings-index l.k)
