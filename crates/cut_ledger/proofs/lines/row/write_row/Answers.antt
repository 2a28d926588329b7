use Rattle.std.proofs.Common.{arith}
use Rattle.cut_ledger.proofs.Texts.{numbers_line, short_line}
use Rattle.cut_ledger.proofs.lines.row.write_row.Goals as goal

pub returns-clause-text : goal.returns-clause-text
returns-clause-text c =
    grind (arith, numbers_line)

pub returns-clause-short : goal.returns-clause-short
returns-clause-short c =
    grind (arith, short_line c.args.numbers.now c.requires, returns-clause-text c)
