use Rattle.std.proofs.Common.{rules}
use Rattle.cut_journal.specs.Reading.{number_at}
use Rattle.cut_journal.proofs.format.number_at.Goals as goal

pub returns : goal.returns
unfolding number_at
returns c = search rules
