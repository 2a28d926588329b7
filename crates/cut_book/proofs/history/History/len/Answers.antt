use Rattle.std.proofs.Common.{arith}
use Rattle.cut_book.proofs.Merged.{long}
use Rattle.cut_book.proofs.history.History.len.Goals as goal

pub returns : goal.returns
returns c =
    grind (arith, long)
