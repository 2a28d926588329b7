use Rattle.std.proofs.Common.{◌≡◌, ◌++◌, map, take}
use Rattle.cut_plan.proofs.combinations.add_cells.Given as goal

abbrev pub invariant-loop-failed : goal.invariant-loop-failed
invariant-loop-failed l = l.cells.items ≡ l.fn.cells.items
    ++ map (λ f. record { k = l.k; h = l.h; l = l.l; f = f }) (take l.failed-index l.f)
