use Rattle.std.proofs.Common.{arith}
use Rattle.cut_journal.proofs.Readings.{none_read, some_read}
use Rattle.cut_journal.proofs.Makings.{look_failed, write_failed}
use Rattle.cut_journal.proofs.new_study.make_study.Goals as goal

pub returns-in-Err-look_first-clause-makes : goal.returns-in-Err-look_first-clause-makes
returns-in-Err-look_first-clause-makes g c = grind (arith, look_failed)

pub returns-then-shown-clause-makes : goal.returns-then-shown-clause-makes
returns-then-shown-clause-makes g c = grind (arith, some_read)

pub write_new-requires : goal.write_new-requires
write_new-requires g c = grind (arith, none_read)

pub returns-in-Ok-write_new-clause-makes : goal.returns-in-Ok-write_new-clause-makes
returns-in-Ok-write_new-clause-makes g c = grind (arith, none_read)

pub returns-clause-makes : goal.returns-clause-makes
returns-clause-makes g c = grind (arith, write_failed)
