use Rattle.std.proofs.Common.{arith}
use Rattle.cut_journal.proofs.Claims.{left_unclaimed, not_claimed}
use Rattle.cut_journal.proofs.journal.Journal.claim.Goals as goal

pub returns-in-Ok-false-clause-made : goal.returns-in-Ok-false-clause-made
returns-in-Ok-false-clause-made g c = grind (arith, left_unclaimed)

pub returns-in-Ok-false-clause-refused : goal.returns-in-Ok-false-clause-refused
returns-in-Ok-false-clause-refused g c = grind (arith, not_claimed)
