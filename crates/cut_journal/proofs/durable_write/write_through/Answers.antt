use Rattle.std.proofs.Common.{arith}
use Rattle.cut_journal.proofs.Moments.{through_sync}
use Rattle.cut_journal.proofs.durable_write.write_through.Goals as goal

pub returns-clause-writes : goal.returns-clause-writes
returns-clause-writes g c = grind (arith, through_sync)
