use Rattle.std.proofs.Common.{arith}
use Rattle.std.proofs.lemmas.Bool.{not-true}
use Rattle.cut_journal.proofs.Heads.{head_fine, head_opens, head_refuses, slips_of_head}
use Rattle.cut_journal.proofs.Readings.{first_there, none_read}
use Rattle.cut_journal.proofs.kept_study.find_study.Goals as goal

pub returns-then-not-shown-clause-finds : goal.returns-then-not-shown-clause-finds
returns-then-not-shown-clause-finds g c = grind (arith, none_read, not-true)

pub invariant_of-file : goal.invariant_of-file
invariant_of-file g c = grind (arith, head_fine, first_there)

pub read_slips-requires : goal.read_slips-requires
read_slips-requires g c = grind (arith, head_opens)

pub returns-in-Ok-check_head-clause-finds : goal.returns-in-Ok-check_head-clause-finds
returns-in-Ok-check_head-clause-finds g c = grind (arith, slips_of_head)

pub returns-clause-finds : goal.returns-clause-finds
returns-clause-finds g c = grind (arith, head_refuses)
