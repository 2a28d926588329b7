-- A set of numbers as contracts see it.
use Rattle.std.specs.Prelude.{◌≡◌, ℕ, ◌+◌, ◌-◌, ◌/◌, ◌<◌, ◌≤◌, ◌||◌, Bool, false, List, map, length, slice_index_or}
use Rattle.std.specs.Prelude.{slice_set}
use Rattle.std.specs.List.{range_with_len, list_any, list_all}
use Rattle.cut_sets.specs.declared.ranges.span.Span.{Span}
use Rattle.cut_sets.specs.ranges.Spans.{is_in, numbers_in}

-- how many numbers a section has; for each number below the length, whether it is in the set; and for each section,
-- whether a span can be inserted without memory
pub record Held : Type 0 where
  pub section_len : ℕ
  pub held : List Bool
  pub room : List Bool

-- whether number t is in the set
abbrev pub has : Held → ℕ → Bool
has s t = slice_index_or s.held t false

-- whether any number of a span is, and whether all are
abbrev pub overlaps : Held → Span → Bool
overlaps s p = list_any (has s) (numbers_in p)

abbrev pub covers : Held → Span → Bool
covers s p = list_all (has s) (numbers_in p)

-- membership once the numbers of a span are inserted
abbrev pub with_span : Held → Span → List Bool
with_span s p = map (λ t. has s t || is_in p t) (range_with_len 0 (length s.held))

-- whether section number c has room
abbrev pub has_room : Held → ℕ → Bool
has_room s c = slice_index_or s.room c false

-- a span that is not empty and lies in one section
pub record IsOfSection (s : Held) (p : Span) : Type 0 where
  pub some : 0 < p.count
  pub within : p.first + p.count ≤ length s.held
  pub one : (p.first + p.count - 1) / s.section_len ≡ p.first / s.section_len

-- an insertion into section c keeps the room of every other section
abbrev pub KeepsOtherRoom : Held → Held → ℕ → Type 0
KeepsOtherRoom old new c = new.room ≡ slice_set old.room c (has_room new c)
