use Rattle.std.proofs.Common.{arith}
use Rattle.cut_journal.proofs.Makings.{close_step}
use Rattle.cut_journal.proofs.new_study.close_study_gate.Goals as goal

pub returns : goal.returns
returns g c = grind (arith, close_step)
