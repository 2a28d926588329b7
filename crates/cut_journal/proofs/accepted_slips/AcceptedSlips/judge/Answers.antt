use Rattle.std.proofs.Common.{arith}
use Rattle.cut_journal.proofs.accepted_slips.AcceptedSlips.judge.Goals as goal

pub returns-clause-good : goal.returns-clause-good
returns-clause-good c =
    grind arith

pub invariant_of-result : goal.invariant_of-result
invariant_of-result c = returns-clause-good c
