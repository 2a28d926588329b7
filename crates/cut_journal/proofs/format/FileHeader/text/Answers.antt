use Rattle.std.proofs.Common.{arith}
use Rattle.cut_journal.proofs.Headers.{own_text}
use Rattle.cut_journal.proofs.format.FileHeader.text.Goals as goal

pub returns : goal.returns
returns c =
    grind (arith, own_text)
