use Rattle.cut_laws.proofs.CellTrials.{of_their_line}
use Rattle.cut_laws.proofs.lines.trials_are_of_their_line.Goals as goal

pub returns : goal.returns
returns c = of_their_line
