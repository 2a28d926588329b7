use Rattle.std.proofs.lemmas.Grind.{common_steps}
use Rattle.std.proofs.Common.{arith}
use Rattle.std.proofs.lemmas.List.{get_or_read}
use Rattle.cut_sets.proofs.BlockLemmas.{all_reserved, had_none, refused, reserved_more}
use Rattle.cut_sets.proofs.ranges.section.Section.reserve.Goals as goal

pub returns-in_err-reserve-clause-room : goal.returns-in_err-reserve-clause-room
returns-in_err-reserve-clause-room c = grind (arith, get_or_read, had_none)

pub returns-in_err-reserve-clause-err : goal.returns-in_err-reserve-clause-err
returns-in_err-reserve-clause-err c =
    grind (arith, get_or_read, refused)

pub loop-at-preserved : goal.loop-at-preserved
loop-at-preserved c =
    grind (arith, common_steps, reserved_more)

pub returns-clause-ok : goal.returns-clause-ok
returns-clause-ok c =
    grind (arith, all_reserved)
