use Rattle.std.proofs.Common.{◌≡◌, ◌++◌, drop, length}
use Rattle.cut_book.specs.inside.HistoryInside.{AreInOrder, calls_from}
use Rattle.cut_book.proofs.history.History.calls.Given as goal

-- with what comes after them, the calls so far are all
abbrev pub invariant-loop-entry : goal.invariant-loop-entry
invariant-loop-entry l = record {
  all : l.calls.items ++ calls_from l.listed (drop l.entry-index l.entry-items) l.losses
      ≡ calls_from 0 l.entry-items l.losses;
  order : AreInOrder l.listed (drop l.entry-index l.entry-items) (length l.losses);
}
