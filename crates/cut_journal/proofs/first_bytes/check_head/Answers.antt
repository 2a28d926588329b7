use Rattle.std.proofs.Common.{arith}
use Rattle.cut_journal.proofs.Gates.{gate_first}
use Rattle.cut_journal.proofs.Readings.{short_other}
use Rattle.cut_journal.proofs.first_bytes.check_head.Goals as goal

pub returns-then-bytes-prefix : goal.returns-then-bytes-prefix
returns-then-bytes-prefix c = grind (arith, short_other, gate_first)
