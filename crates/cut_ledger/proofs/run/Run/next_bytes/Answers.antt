use Rattle.std.proofs.lemmas.Grind.{common_steps}
use Rattle.std.proofs.Common.{arith}
use Rattle.cut_ledger.proofs.run.Run.next_bytes.Goals as goal

pub returns-clause-bytes : goal.returns-clause-bytes
returns-clause-bytes c =
    grind (arith, common_steps)

pub returns-clause-small : goal.returns-clause-small
returns-clause-small c =
    grind arith
