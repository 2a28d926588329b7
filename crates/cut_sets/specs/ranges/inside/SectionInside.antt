-- What of a `Section` contracts see.
use Rattle.std.specs.Prelude.{map}
use Rattle.std.specs.List.{list_all}
use Rattle.cut_sets.specs.declared.ranges.section.Section.TheInside.{Inside}
use Rattle.cut_sets.specs.ranges.inside.Blocks.{Blocks}

abbrev pub blocks_of : Inside → Blocks
blocks_of s = record {
  blocks = map (λ e. e.edges) s.blocks.items;
  room = list_all (λ e. e.room) s.blocks.items;
}
