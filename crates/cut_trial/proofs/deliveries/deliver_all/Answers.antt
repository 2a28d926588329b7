use Rattle.std.proofs.Common.{◌≡◌, ◌+◌, ◌++◌, ◌∷◌, [], ℕ, Bool, true, List, Some, map, take, drop, get_or, slice_get}
use Rattle.std.proofs.Common.{◌∙◌, arith}
use Rattle.cut_outcome.proofs.Words.{Edge, is_edge_of, Delivery, DetectorState, HasDelivered}
use Rattle.std.proofs.lemmas.List.{get_or-map, length-map, map_more, map-append, take-append-drop}
use Rattle.std.proofs.lemmas.List.Sums.{AllPass-from_list_all}
use Rattle.std.proofs.lemmas.Option.{get_or_from_slice_get, slice_get_within}
use Rattle.cut_trial.proofs.Settled.{settled_stays}
use Rattle.cut_trial.proofs.deliveries.deliver_all.Goals as goal

abbrev edge_of : Delivery → Edge
edge_of x = x.edge

abbrev none : Delivery
none = record { edge = record { ring = 0; subject = 0 }; copy = 0 }

-- one delivery more has been heard
heard_more : (order : List Delivery) (i : ℕ) (x : Delivery) → slice_get order i ≡ Some x → (d : DetectorState)
    → HasDelivered d (map edge_of (take i order) ++ x.edge ∷ [])
    → HasDelivered d (map edge_of (take (i + 1) order))
heard_more order i x at d h =
    let below = slice_get_within order i x at in
    rw (map_more edge_of order i none below, get_or_from_slice_get order i x none at) h

pub deliver-requires-clause-within : goal.deliver-requires-clause-within
deliver-requires-clause-within c =
    let order : List Delivery = c.args.order.now in
    let test : Edge → Bool = λ e. is_edge_of c.args.detector.now.rule.k c.args.detector.now.layout.nodes e in
    let below = slice_get_within order c.loop-i.i c.get.result c.get.ensures in
    let here = get_or_from_slice_get order c.loop-i.i c.get.result none c.get.ensures in
    let passes : test (get_or (map edge_of order) c.loop-i.i none.edge) ≡ true =
    AllPass-from_list_all test (map edge_of order) c.requires.within c.loop-i.i none.edge
    (omega (arith, length-map order edge_of)) in
    rw (c.loop-i.invariant.rule, c.loop-i.invariant.layout)
    (rw (get_or-map edge_of order c.loop-i.i none none.edge below, here) at passes)

pub loop-i-preserved : goal.loop-i-preserved
loop-i-preserved c = search (arith, heard_more, c.deliver.ensures.history)

pub returns-in-Settled-clause-proposal : goal.returns-in-Settled-clause-proposal
returns-in-Settled-clause-proposal c =
    let order : List Delivery = c.args.order.now in
    let n : ℕ = c.loop-i.i + 1 in
    let heard : List Edge = map edge_of (take n order) in
    let later : List Edge = map edge_of (drop n order) in
    let history = heard_more order c.loop-i.i c.get.result c.get.ensures c.deliver.new.self
    (c.deliver.ensures.history _ c.loop-i.invariant.delivered) in
    let held = c.loop-i.invariant in
    let is = rw (c.deliver.ensures.layout, held.layout, c.deliver.ensures.rule, held.rule)
    at history.proposal in
    is ∙ settled_stays c.args.detector.now.layout c.args.detector.now.rule heard later
    (rw is at (c.deliver.ensures.step.0 c.in-Settled.is))
    ∙ rw (← map-append, take-append-drop, length-map)
