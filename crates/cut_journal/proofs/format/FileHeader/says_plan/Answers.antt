use Rattle.std.proofs.Common.{arith}
use Rattle.cut_journal.proofs.Headers.{says_other, says_same}
use Rattle.cut_journal.proofs.format.FileHeader.says_plan.Goals as goal

pub returns-then-not-is_long : goal.returns-then-not-is_long
returns-then-not-is_long c =
    grind (arith, says_other)

pub returns : goal.returns
returns c =
    grind (arith, says_same)
