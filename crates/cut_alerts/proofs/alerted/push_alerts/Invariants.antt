use Rattle.std.proofs.Common.{◌≡◌, ◌++◌, filter}
use Rattle.cut_alerts.specs.Alerted.{is_alerted, edges_of}
use Rattle.cut_alerts.proofs.alerted.push_alerts.Given as goal

abbrev pub invariant-loop-ring : goal.invariant-loop-ring
invariant-loop-ring l =
    l.edges.items ≡ l.initial.edges.items ++ filter (λ e. is_alerted l.rings l.roles e) (edges_of l.ring l.subject)
