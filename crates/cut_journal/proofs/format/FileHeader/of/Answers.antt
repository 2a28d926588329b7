use Rattle.std.proofs.Common.{arith}
use Rattle.cut_journal.proofs.Prefixes.{header_made, digest_made, prefix_made}
use Rattle.cut_journal.proofs.format.FileHeader.of.Goals as goal

pub invariant_of-result : goal.invariant_of-result
invariant_of-result c =
    grind (arith, header_made, digest_made, prefix_made)
