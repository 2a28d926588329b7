use Rattle.std.proofs.Common.{arith}
use Rattle.cut_plan.specs.declared.faults.Faults.TheVariants as fault
use Rattle.cut_plan.specs.declared.failing.Failing.TheVariants.{Alike, Mixed}
use Rattle.cut_alerts.proofs.Deafness.{draw_alike}
use Rattle.cut_alerts.proofs.laws.as_many_deaf_draw_alike.Goals as goal

pub returns-clause-alike : goal.returns-clause-alike
returns-clause-alike c = draw_alike

pub returns-clause-none : goal.returns-clause-none
returns-clause-none c = λ v f d r. draw_alike v (Mixed 0) (Alike fault.Crash) f d r (omega arith)

pub returns-clause-all : goal.returns-clause-all
returns-clause-all c = λ v deaf f d r many. draw_alike v (Mixed deaf) (Alike fault.Deaf) f d r (omega (arith, many))
