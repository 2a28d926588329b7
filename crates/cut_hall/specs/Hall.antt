-- A hall as contracts see it.
use Rattle.std.specs.Prelude.{ℕ, ◌+◌, Bool, Option}
use Rattle.atomic_table.specs.Seated.{TableId}
use Rattle.cut_slots.specs.Pass.{Holding}
use Rattle.cut_slots.specs.Start.{StudyStart}

-- which hall it is, by its board; how many slots it has, and how many passes; whether the slips that its
-- studies begin with are those that their trials give; and with what its study began, if it was made with one
pub record HallValue : Type 0 where
  pub id : TableId
  pub slots : ℕ
  pub passes : ℕ
  pub is_trusted : Bool
  pub opening : Option StudyStart

-- a pass whose holder made this many calls more
abbrev pub made_more : Holding → ℕ → Holding
made_more p n = record p { made = p.made + n }
