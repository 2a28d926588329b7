-- A pass as contracts see it.
use Rattle.std.specs.Prelude.{ℕ}
use Rattle.atomic_table.specs.Seated.{TableId}
use Rattle.cut_board.specs.declared.view.View.{View}

-- whose pass it is; what its holders drew, counted and read on the hall's board; and how many calls of books
-- they made
pub record Holding : Type 0 where
  pub hall : TableId
  pub view : View
  pub made : ℕ
