use Rattle.std.proofs.Common.{◌≡◌, ℕ, List, length, map, ap, ◌∙◌}
use Rattle.cut_outcome.proofs.Words.{Cell, Values, Edge, EdgeSet, first_of, Layout, Delivery, Source, IsDeliveryOrder}
use Rattle.cut_outcome.proofs.Words.{all_deliveries, rule_of, proposal_of, receiver_proposal}
use Rattle.std.proofs.lemmas.List.Sorted.{length_permutation}
use Rattle.cut_trial.proofs.replays.Replay.receive.Goals as goal

proposed_from : (v : Values) (c : Cell) (r : Layout) (d : Source) (j copies : ℕ)
    (given edges : List Edge) (order : List Delivery)
    → IsDeliveryOrder d j c.k given copies order → given ≡ edges → copies ≡ v.copies
    → proposal_of r (rule_of c.k c.h c.l v.implicit) (first_of (map (λ x. x.edge) order)) (length order)
    ≡ receiver_proposal v c r d edges j
proposed_from v c r d j copies given edges order is edges_are copies_are =
    ap (λ (E : ℕ → EdgeSet). proposal_of r (rule_of c.k c.h c.l v.implicit) E (length order))
    (λ i n. is.prefixes n i)
    ∙ rw (length_permutation (all_deliveries given copies) order is.each_once, edges_are, copies_are)

pub returns-clause-proposal : goal.returns-clause-proposal
returns-clause-proposal c =
    let alerts = c.args.alerts.now in
    c.deliver_all.ensures.proposal
    ∙ rw (c.requires.belong.layout, c.requires.belong.rule)
    (proposed_from alerts.study.plan.now alerts.cell alerts.study.rings.now c.args.draws.now c.args.receiver
    c.copies-copies.result c.as_slice-edges.result.now alerts.edges.items c.order_deliveries.new.order
    c.in_ok-order_deliveries.ensures.order c.as_slice-edges.ensures.value c.copies-copies.ensures.value)
