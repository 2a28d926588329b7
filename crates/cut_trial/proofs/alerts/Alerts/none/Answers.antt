use Rattle.std.proofs.Common.{◌≡◌, List, sym, subst}
use Rattle.cut_rings.specs.declared.edge.Edge.{Edge}
use Rattle.cut_rings.specs.Edges.{edges_in, set_of}
use Rattle.cut_trial.proofs.Grouped.{none_are_grouped}
use Rattle.cut_trial.proofs.alerts.Alerts.none.Goals as goal

pub invariant_of-result-clause-grouped : goal.invariant_of-result-clause-grouped
invariant_of-result-clause-grouped c =
    let n = c.args.study.rings.now.nodes in
    subst (λ (edges : List Edge). edges ≡ edges_in c.args.cell.k n (set_of edges)) (sym c.new.ensures.items)
    (none_are_grouped c.args.cell.k n)
