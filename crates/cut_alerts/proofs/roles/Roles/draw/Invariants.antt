use Rattle.std.proofs.Common.{◌≡◌, length}
use Rattle.cut_alerts.specs.Drawn.{ranked_role}
use Rattle.cut_alerts.specs.declared.role.Role.TheVariants.{Healthy}
use Rattle.cut_alerts.proofs.RankLemmas.{HaveRoles, HaveNoRoles}
use Rattle.cut_alerts.proofs.roles.Roles.draw.Given as goal

abbrev pub invariant-loop-rank : goal.invariant-loop-rank
invariant-loop-rank l = record {
  long : length l.self-inside.roles.items ≡ l.n;
  set : HaveRoles l.fn.draws l.n (ranked_role l.plan l.cell.f l.rings) Healthy l.rank l.self-inside.roles.items;
  rest : HaveNoRoles l.fn.draws l.n Healthy l.rank l.self-inside.roles.items;
}
