use Rattle.std.proofs.Common.{arith}
use Rattle.clap.proofs.WalkLemmas.{one_text-rows}
use Rattle.cut_command_line.proofs.LineLemmas.{is_given}
use Rattle.cut_command_line.proofs.line.number_given.Goals as goal

pub returns-in_err-number-clause-none : goal.returns-in_err-number-clause-none
returns-in_err-number-clause-none c =
    grind (arith, one_text-rows)

pub returns-then-number-lt1-clause-none : goal.returns-then-number-lt1-clause-none
returns-then-number-lt1-clause-none c =
    grind (arith, one_text-rows)

pub returns-clause-some : goal.returns-clause-some
returns-clause-some c =
    grind (arith, one_text-rows, is_given)
