use Rattle.std.proofs.Common.{◌∙◌, sym}
use Rattle.cut_journal.proofs.Gates.{gate_first}
use Rattle.cut_journal.proofs.format.FileHeader.first_gate.Goals as goal

pub returns-clause-place : goal.returns-clause-place
returns-clause-place c = c.prefix.ensures.long ∙ sym (gate_first c.args.self.now)
