use Rattle.std.proofs.Common.{arith}
use Rattle.cut_journal.proofs.Prefixes.{rest_made}
use Rattle.cut_journal.proofs.format.FileHeader.rest.Goals as goal

pub returns : goal.returns
returns c =
    grind (arith, rest_made)
