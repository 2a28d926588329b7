use Rattle.std.proofs.Common.{◌≡◌, map}
use Rattle.std.specs.List.{All, range_with_len}
use Rattle.cut_rings.specs.Hashed.{hashed_position}
use Rattle.cut_rings.specs.inside.Inverse.{IsInverse}
use Rattle.cut_rings.proofs.rings.Rings.hashed.Given as goal

-- the rings made so far are the first ones
abbrev pub invariant-loop-ring : goal.invariant-loop-ring
invariant-loop-ring l = record {
  positions : map (λ r. r.positions.items) l.rings.items
      ≡ map (λ k. map (λ p. hashed_position l.seed l.nodes k p) (range_with_len 0 l.nodes)) (range_with_len 0 l.ring);
  inverse : All (λ r. IsInverse l.nodes r.order.items r.positions.items) l.rings.items;
}
