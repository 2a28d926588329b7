use Rattle.std.proofs.Common.{rules, ◌≡◌}
use Rattle.cut_plan.specs.Cells.{cells_of}
use Rattle.cut_plan.specs.Plan.{IsPlan}
use Rattle.cut_plan.proofs.CellFacts.{cell-facts}
use Rattle.cut_plan.proofs.plan.Plan.cell.Goals as goal

pub returns-clause-cell : goal.returns-clause-cell
returns-clause-cell c =
    let plan : IsPlan c.args.self.now = search rules in
    let same : c.self.inside.cells.items ≡ cells_of c.args.self.now = search rules in
    cell-facts c.args.self.now c.args.i c.index.result.now c.self.inside.cells.items plan same c.requires
    c.index.ensures
