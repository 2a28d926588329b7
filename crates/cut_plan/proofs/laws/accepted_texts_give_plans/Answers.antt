use Rattle.cut_plan.proofs.PlansFromTexts.{accepted_is_plan}
use Rattle.cut_plan.proofs.laws.accepted_texts_give_plans.Goals as goal

pub returns : goal.returns
returns c = accepted_is_plan
