use Rattle.cut_plan.proofs.Rising.{rising_whole}
use Rattle.cut_plan.proofs.field_checks.are_rising.Goals as goal

pub returns : goal.returns
returns c = rising_whole c.args.items.now c.loop-i.i c.loop-i.auto.i c.loop-i-test.false c.loop-i.invariant
