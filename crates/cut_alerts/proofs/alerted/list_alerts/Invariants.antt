use Rattle.std.proofs.Common.{◌≡◌, filter}
use Rattle.cut_alerts.specs.Alerted.{is_alerted, all_edges}
use Rattle.cut_alerts.proofs.alerted.list_alerts.Given as goal

abbrev pub invariant-loop-subject : goal.invariant-loop-subject
invariant-loop-subject l =
    l.list.items ≡ filter (λ e. is_alerted l.rings l.roles e) (all_edges l.k l.subject)
