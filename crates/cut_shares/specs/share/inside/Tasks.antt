-- Pieces that threads run.
use Rattle.std.specs.Prelude.{◌≡◌, Bool, not, List, map, filter, IfSome, is_some}
use Rattle.cut_plan.specs.Values.{Values}
use Rattle.cut_outcome.specs.declared.piece.Piece.{Piece}
use Rattle.cut_shares.specs.declared.share.piece_task.PieceTask.{PieceTask}

-- the result of a task is that of its piece, if it has one
abbrev pub IsRun : Values → PieceTask → Type 0
IsRun v task = IfSome task.result (λ r. r ≡ record { plan = v; piece = task.piece })

-- the pieces of tasks
abbrev pub pieces_of : List PieceTask → List Piece
pieces_of tasks = map (λ task. task.piece) tasks

-- those that have a result
abbrev pub has_result : PieceTask → Bool
has_result task = is_some task.result

abbrev pub done_of : List PieceTask → List Piece
done_of tasks = pieces_of (filter has_result tasks)

-- those for which memory ran out
abbrev pub lost_of : List PieceTask → List Piece
lost_of tasks = pieces_of (filter (λ task. not (has_result task)) tasks)
