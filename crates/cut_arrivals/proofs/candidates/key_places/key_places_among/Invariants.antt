use Rattle.std.proofs.Common.{take}
use Rattle.cut_arrivals.specs.candidates.KeyPlaces.{AreKeyPlaces, BeginsWith}
use Rattle.cut_arrivals.specs.candidates.inside.KeyPlaces.{Extends}
use Rattle.cut_arrivals.proofs.candidates.key_places.key_places_among.Given as goal

abbrev pub invariant-loop-edge : goal.invariant-loop-edge
invariant-loop-edge l = record {
  key_places : AreKeyPlaces l.k l.blocks.items (take l.edge-index l.edges) l.key_places.items;
  blocks : Extends l.initial.blocks.items l.edge-index l.blocks.items;
  first : BeginsWith l.first l.blocks.items;
}
