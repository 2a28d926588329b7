-- The result of a piece as contracts see it.
use Rattle.cut_plan.specs.Values.{Values}
use Rattle.cut_outcome.specs.declared.piece.Piece.{Piece}

-- the plan, and which of its trials were run
pub record Computed : Type 0 where
  pub plan : Values
  pub piece : Piece
