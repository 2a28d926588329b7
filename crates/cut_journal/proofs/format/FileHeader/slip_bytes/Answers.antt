use Rattle.std.proofs.Common.{arith}
use Rattle.cut_journal.proofs.SlipBytes.{slip_made, numbers_shown}
use Rattle.cut_journal.proofs.format.FileHeader.slip_bytes.Goals as goal

pub returns-clause-bytes : goal.returns-clause-bytes
returns-clause-bytes c =
    grind (arith, numbers_shown, slip_made)
