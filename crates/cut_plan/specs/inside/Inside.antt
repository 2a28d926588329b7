-- How a `Plan` is kept: its values, and the cells that they give.
use Rattle.std.specs.Prelude.{◌≡◌}
use Rattle.cut_plan.specs.declared.plan.Plan.TheInside.{Inside}
use Rattle.cut_plan.specs.Values.{Values}
use Rattle.cut_plan.specs.Cells.{cells_of}
use Rattle.cut_plan.specs.Plan.{IsPlan}

-- the values that the fields hold
abbrev pub values_of : Inside → Values
values_of p = record {
  copies = p.copies;
  dead = p.dead;
  f = p.f.items;
  failing = p.failing;
  h = p.h.items;
  implicit = p.implicit;
  k = p.k.items;
  l = p.l.items;
  liars = p.liars;
  links = p.links;
  nodes = p.nodes;
  repeats = p.repeats;
  seed = p.seed;
}

-- the values are those of an accepted plan, and the cells are theirs
pub record IsPlanInside (p : Inside) : Type 0 where
  pub plan : IsPlan (values_of p)
  pub cells : p.cells.items ≡ cells_of (values_of p)
