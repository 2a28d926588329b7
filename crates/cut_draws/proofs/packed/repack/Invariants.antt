use Rattle.std.proofs.Common.{◌≡◌, map, take}
use Rattle.cut_draws.proofs.packed.repack.Given as goal

abbrev pub invariant-loop-x : goal.invariant-loop-x
invariant-loop-x l = l.packed.items ≡ map (λ x. x.packed) (take l.x-index l.keyed)
