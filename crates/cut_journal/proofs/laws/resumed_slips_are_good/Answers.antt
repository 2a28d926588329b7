use Rattle.cut_journal.proofs.GoodSlips.{resumed_good}
use Rattle.cut_journal.proofs.laws.resumed_slips_are_good.Goals as goal

pub returns : goal.returns
returns c = resumed_good c.true_slips_give_the_table.ensures.good c.every_run_is_right.ensures
