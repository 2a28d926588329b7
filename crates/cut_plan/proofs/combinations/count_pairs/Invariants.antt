use Rattle.std.proofs.Common.{◌≡◌, ◌*◌, ◌≤◌, take}
use Rattle.std.specs.List.{sum_by}
use Rattle.cut_plan.specs.inside.Triples.{lows_under}
use Rattle.cut_plan.proofs.combinations.count_pairs.Given as goal

abbrev pub invariant-loop-high : goal.invariant-loop-high
invariant-loop-high l = (l.count ≡ sum_by (λ h. lows_under l.l l.k h) (take l.high-index l.h))
    × (l.count ≤ l.high-index * 32)
