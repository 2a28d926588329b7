use Rattle.std.proofs.Common.{arith}
use Rattle.std.proofs.lemmas.List.{take_rest}
use Rattle.cut_journal.proofs.format.FileHeader.has_digest.Goals as goal

pub returns : goal.returns
returns c =
    grind (arith, take_rest)
