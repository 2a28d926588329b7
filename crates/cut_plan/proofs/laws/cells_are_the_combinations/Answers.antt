use Rattle.cut_plan.proofs.CellOrder.{combinations}
use Rattle.cut_plan.proofs.laws.cells_are_the_combinations.Goals as goal

pub returns : goal.returns
returns c = combinations
