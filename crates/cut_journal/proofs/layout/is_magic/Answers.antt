use Rattle.std.proofs.Common.{arith}
use Rattle.cut_journal.specs.Reading.{is_magic}
use Rattle.cut_journal.proofs.layout.is_magic.Goals as goal

pub returns-then-eq : goal.returns-then-eq
unfolding is_magic
returns-then-eq c = grind arith

pub returns-else-eq : goal.returns-else-eq
unfolding is_magic
returns-else-eq c = grind arith
