use Rattle.std.proofs.Common.{arith}
use Rattle.cut_journal.proofs.Prefixes.{short_text}
use Rattle.cut_journal.proofs.format.text_length.Goals as goal

pub returns-clause-short : goal.returns-clause-short
returns-clause-short c =
    grind (arith, short_text)

pub overflow_cast-result : goal.overflow_cast-result
overflow_cast-result c =
    grind (arith, short_text)
