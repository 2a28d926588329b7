use Rattle.std.proofs.Common.{◌≡◌, map, take}
use Rattle.std.specs.List.{All, range_with_len}
use Rattle.cut_rings.specs.inside.Inverse.{IsInverse}
use Rattle.cut_rings.specs.Listed.{listed_position}
use Rattle.cut_rings.proofs.listed.listed_rings.Given as goal

-- the rings made so far are those of the first lists
abbrev pub invariant-loop-list : goal.invariant-loop-list
invariant-loop-list l = record {
  positions : map (λ r. r.positions.items) l.rings.items
      ≡ map (λ list. map (λ p. listed_position list.items p) (range_with_len 0 l.nodes)) (take l.list-index l.lists);
  inverse : All (λ r. IsInverse l.nodes r.order.items r.positions.items) l.rings.items;
}
