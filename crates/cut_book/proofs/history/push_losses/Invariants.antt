use Rattle.std.proofs.Common.{◌≡◌, ◌++◌, map, take}
use Rattle.cut_book.specs.inside.HistoryInside.{lost_call}
use Rattle.cut_book.proofs.history.push_losses.Given as goal

abbrev pub invariant-loop-piece : goal.invariant-loop-piece
invariant-loop-piece l = l.calls.items ≡ l.initial.calls.items ++ map lost_call (take l.piece-index l.losses)
