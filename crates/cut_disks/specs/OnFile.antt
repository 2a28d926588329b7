-- A disk of a file, as contracts see it.
use Rattle.std.specs.Prelude.{ℕ}

-- the file of the system, and how many calls of the disk failed
pub record OnFile (F : Type 0) : Type 0 where
  pub raw : F
  pub failures : ℕ
