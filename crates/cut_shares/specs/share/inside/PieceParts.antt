-- What is left of a piece: nothing, or a piece of the plan.
use Rattle.std.specs.Prelude.{◌≤◌, IsTrue}
use Rattle.cut_plan.specs.Values.{Values}
use Rattle.cut_outcome.specs.declared.piece.Piece.{Piece}
use Rattle.cut_outcome.specs.Sum.{is_piece}

abbrev pub IsRest : Values → Piece → Type 0
IsRest v p = 1 ≤ p.count → IsTrue (is_piece v p)
