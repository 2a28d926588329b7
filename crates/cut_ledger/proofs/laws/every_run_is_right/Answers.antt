use Rattle.cut_ledger.proofs.Events.{law}
use Rattle.cut_ledger.proofs.laws.every_run_is_right.Goals as goal

pub returns : goal.returns
returns c = law c.same_plans_are_equal.ensures
