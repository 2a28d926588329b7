use Rattle.std.proofs.Common.{arith}
use Rattle.cut_journal.specs.Reading.{has_magic}
use Rattle.cut_journal.proofs.format.FileHeader.has_magic.Goals as goal

pub returns : goal.returns
unfolding has_magic
returns c =
    grind arith
