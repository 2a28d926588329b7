use Rattle.std.proofs.Common.{◌≡◌, ℕ, ◌≤◌, List, [], arith}
use Rattle.std.specs.Prelude.{Result, Ok, Err, OnOk, OnErr, IsTrue}
use Rattle.cut_rings.specs.declared.edge.Edge.{Edge}
use Rattle.cut_rings.specs.Edges.{are_edges_of, edges_in, set_of}
use Rattle.cut_trial.proofs.Grouped.{none_are_grouped}
use Rattle.cut_trial.proofs.alerts.Alerts.alert.Goals as goal

grouped_after : {T E : Type 0} (k n : ℕ) (edges : List Edge) (result : Result T E)
    → OnOk result (edges ≡ edges_in k n (set_of edges)) → OnErr result (edges ≡ [])
    → edges ≡ edges_in k n (set_of edges)
grouped_after k n edges (Ok x) grouped none = grouped
grouped_after k n edges (Err e) grouped none =
    grind (arith, none_are_grouped)

within_after : {T E : Type 0} (k least : ℕ) (edges : List Edge) (result : Result T E)
    → OnOk result ((n : ℕ) → least ≤ n → IsTrue (are_edges_of k n edges)) → OnErr result (edges ≡ [])
    → (n : ℕ) → least ≤ n → IsTrue (are_edges_of k n edges)
within_after k least edges (Ok x) within none = within
within_after k least edges (Err e) within none = grind arith

pub invariant_of-self-clause-grouped : goal.invariant_of-self-clause-grouped
invariant_of-self-clause-grouped c =
    grind (arith, grouped_after)

pub invariant_of-self-clause-within : goal.invariant_of-self-clause-within
invariant_of-self-clause-within c = λ n above.
    within_after c.args.self.now.cell.k c.args.self.now.study.rings.now.nodes c.alerts_into.new.edges.items
    c.alerts_into.result c.alerts_into.ensures.within c.alerts_into.ensures.err n
    (omega (arith, above, c.args.self.now.study.nodes))
