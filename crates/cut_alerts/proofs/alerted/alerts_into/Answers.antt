-- What is known of the alerted edges is known of a list that holds them.
use Rattle.std.proofs.Common.{◌≡◌, ℕ, ◌≤◌, ◌*◌, Bool, true, List, length, map, filter, sym, subst}
use Rattle.std.specs.Prelude.{◌↔◌, OnOk}
use Rattle.std.proofs.lemmas.Result.{on_ok_weaker}
use Rattle.cut_rings.specs.declared.edge.Edge.{Edge}
use Rattle.std.specs.List.{Contains}
use Rattle.std.specs.List.Sorted.{IsStrictlyIncreasing}
use Rattle.cut_rings.specs.Edges.{are_edges_of, edge_number, edges_in, set_of}
use Rattle.cut_draws.specs.DeliveryOrder.{are_distinct}
use Rattle.cut_alerts.specs.Alerted.{IsAlerted, is_alerted, all_edges}
use Rattle.cut_alerts.proofs.EdgeLemmas.{within_all, few_all, distinct_all, member_all, increasing_all}
use Rattle.cut_alerts.proofs.Grouped.{grouped_all}
use Rattle.cut_alerts.proofs.alerted.alerts_into.Goals as goal

abbrev test : goal.Else-is_err → Edge → Bool
test c e = is_alerted c.args.rings.now c.args.roles.now e

known : (c : goal.Else-is_err) (P : List Edge → Type 0)
    → P (filter (test c) (all_edges c.args.k c.args.rings.now.nodes))
    → OnOk c.list_alerts-filled.result (P c.list_alerts-filled.new.list.items)
known c P of_all = on_ok_weaker c.list_alerts-filled.result (λ same. subst P (sym same) of_all)
    c.list_alerts-filled.ensures

pub returns-else-is_err-clause-within : goal.returns-else-is_err-clause-within
returns-else-is_err-clause-within c =
    known c (λ es. (n : ℕ) → c.args.rings.now.nodes ≤ n → are_edges_of c.args.k n es ≡ true)
    (λ n fits. within_all (test c) c.args.k c.args.rings.now.nodes n fits)

pub returns-else-is_err-clause-few : goal.returns-else-is_err-clause-few
returns-else-is_err-clause-few c = known c (λ es. length es ≤ c.args.rings.now.nodes * c.args.k)
    (few_all (test c) c.args.k c.args.rings.now.nodes)

pub returns-else-is_err-clause-distinct : goal.returns-else-is_err-clause-distinct
returns-else-is_err-clause-distinct c = known c (λ es. are_distinct c.args.k es ≡ true)
    (distinct_all (test c) c.args.k c.args.rings.now.nodes)

pub returns-else-is_err-clause-ascending : goal.returns-else-is_err-clause-ascending
returns-else-is_err-clause-ascending c =
    known c (λ es. IsStrictlyIncreasing (map (λ e. edge_number c.args.k e) es))
    (increasing_all (test c) c.args.k c.args.rings.now.nodes)

pub returns-else-is_err-clause-member : goal.returns-else-is_err-clause-member
returns-else-is_err-clause-member c =
    known c (λ es. (e : Edge) → Contains es e ↔ IsAlerted c.args.rings.now c.args.roles.now c.args.k e)
    (λ e. member_all (test c) c.args.k c.args.rings.now.nodes e)

pub returns-else-is_err-clause-grouped : goal.returns-else-is_err-clause-grouped
returns-else-is_err-clause-grouped c =
    known c (λ es. es ≡ edges_in c.args.k c.args.rings.now.nodes (set_of es))
    (grouped_all (test c) c.args.k c.args.rings.now.nodes)
