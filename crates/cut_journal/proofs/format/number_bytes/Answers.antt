use Rattle.std.proofs.Common.{arith}
use Rattle.cut_journal.specs.File.{number_bytes}
use Rattle.cut_journal.proofs.format.number_bytes.Goals as goal

pub returns-clause-bytes : goal.returns-clause-bytes
unfolding number_bytes
returns-clause-bytes c =
    grind arith
