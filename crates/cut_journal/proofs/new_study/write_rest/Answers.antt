use Rattle.std.proofs.Common.{arith}
use Rattle.cut_journal.proofs.Makings.{rest_step}
use Rattle.cut_journal.proofs.new_study.write_rest.Goals as goal

pub returns : goal.returns
returns g c = grind (arith, rest_step)
