use Rattle.std.proofs.Common.{◌≡◌, ◌+◌, drop}
use Rattle.cut_book.specs.inside.HistoryInside.{entries_count}
use Rattle.cut_book.proofs.history.History.accepted.Given as goal

-- with those of what comes after them, the trials so far are all
abbrev pub invariant-loop-entry : goal.invariant-loop-entry
invariant-loop-entry l = l.sum + entries_count (drop l.entry-index l.entry-items) ≡ entries_count l.entry-items
