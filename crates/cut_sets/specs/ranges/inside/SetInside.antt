-- What of a `RangeSet` contracts see, and what is always true of it.
use Rattle.std.specs.Prelude.{◌≡◌, ℕ, ◌*◌, ◌/◌, ◌%◌, ◌<◌, ◌^◌, Bool, false, List, [], All, map, length, slice_index_or}
use Rattle.std.specs.Int.{div_ceil}
use Rattle.std.specs.List.{range_with_len}
use Rattle.cut_sets.specs.declared.ranges.section.TheConstants.{BLOCK}
use Rattle.cut_sets.specs.declared.ranges.range_set.RangeSet.TheInside.{Inside}
use Rattle.cut_sets.specs.ranges.inside.Blocks.{Blocks, is_at}
use Rattle.cut_sets.specs.ranges.Held.{Held}

-- a section without blocks, which stands for one that a set lacks
abbrev pub no_blocks : Blocks
no_blocks = record { blocks = []; room = false }

abbrev pub section_at : List Blocks → ℕ → Blocks
section_at sections c = slice_index_or sections c no_blocks

-- whether a number is in its section
abbrev pub is_held : ℕ → List Blocks → ℕ → Bool
is_held section_len sections t = is_at (section_at sections (t / section_len)).blocks (t % section_len)

abbrev pub held_in : ℕ → List Blocks → Held
held_in section_len sections = record {
  section_len = section_len;
  held = map (is_held section_len sections) (range_with_len 0 (length sections * section_len));
  room = map (λ s. s.room) sections;
}

abbrev pub held_of : Inside → Held
held_of s = held_in s.section_len s.sections.items

-- each section has its blocks
pub record IsSet (s : Inside) : Type 0 where
  pub some : 0 < s.section_len
  pub few : length s.sections.items * s.section_len < 2 ^ 32
  pub long : All (λ b. length b.blocks ≡ div_ceil s.section_len BLOCK) s.sections.items
