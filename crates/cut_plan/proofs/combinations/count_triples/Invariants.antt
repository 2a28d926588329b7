use Rattle.std.proofs.Common.{◌≡◌, ◌*◌, ◌≤◌, take}
use Rattle.std.specs.List.{sum_by}
use Rattle.cut_plan.specs.inside.Triples.{pairs_under}
use Rattle.cut_plan.proofs.combinations.count_triples.Given as goal

abbrev pub invariant-loop-rings : goal.invariant-loop-rings
invariant-loop-rings l = (l.count ≡ sum_by (λ k. pairs_under l.h l.l k) (take l.rings-index l.k))
    × (l.count ≤ l.rings-index * 1024)
