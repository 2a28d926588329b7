use Rattle.std.proofs.Common.{arith}
use Rattle.cut_journal.proofs.Heads.{head_read}
use Rattle.cut_journal.proofs.kept_study.read_head.Goals as goal

pub returns-clause-reads : goal.returns-clause-reads
returns-clause-reads g c = grind (arith, head_read)
