-- A ledger as contracts see it.
use Rattle.std.specs.Prelude.{◌≡◌, ℕ, Bool, false, List, slice_index_or, slice_set}
use Rattle.cut_ledger.specs.Contents.{Contents}

-- what it holds, and of each cell whether a piece of it can be added without memory
pub record Account : Type 0 where
  pub contents : Contents
  pub room : List Bool

-- whether there is room in cell number c
abbrev pub has_room : Account → ℕ → Bool
has_room a c = slice_index_or a.room c false

-- the room of every cell but number c is as before
abbrev pub KeepsRoomOfOthers : Account → Account → ℕ → Type 0
KeepsRoomOfOthers old new c = new.room ≡ slice_set old.room c (has_room new c)
