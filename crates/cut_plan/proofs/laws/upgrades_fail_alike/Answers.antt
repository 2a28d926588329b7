use Rattle.cut_plan.proofs.Upgrades.{upgraded_is_plan, upgraded_deaf}
use Rattle.cut_plan.proofs.laws.upgrades_fail_alike.Goals as goal

pub returns-clause-plan : goal.returns-clause-plan
returns-clause-plan c = upgraded_is_plan

pub returns-clause-deaf : goal.returns-clause-deaf
returns-clause-deaf c = upgraded_deaf
