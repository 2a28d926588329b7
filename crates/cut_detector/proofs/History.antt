-- What a delivery does to the proposal, and to what a detector keeps.
use Rattle.std.proofs.Common.{◌≡◌, ℕ, ◌+◌, ◌<◌, ◌≤◌, Bool, true, false, cond, ◌||◌, List, [], ◌∷◌, ◌++◌, length, take}
use Rattle.std.proofs.Common.{Option, Some, None, is_some, refl, ap, sym, subst, ◌∙◌, arith}
use Rattle.std.proofs.Common.{length-append, vec_capacity, IsTrue, replicate, nat_lt}
use Rattle.cut_detector.proofs.Words.{Edge, EdgeSet, HasDelivered, HoldsFirst, Inside, IsDetector, Layout, Proposal}
use Rattle.cut_detector.proofs.Words.{Rule, DetectorState, TakesEdge, and_parts, both_ways, edges_in, first_of}
use Rattle.cut_detector.proofs.Words.{fresh, is_edge, is_edge_of, is_settled, layout_of, list_any-append, ltb-true}
use Rattle.cut_detector.proofs.Words.{or-false, proposal_of, reported_of, rule_in, rule_of_inside}
use Rattle.cut_detector.proofs.Words.{set_of, settled_proposal, stable_members, state_of, take-append-le, take_all}
use Rattle.cut_detector.proofs.Words.{with_edge}
use Rattle.std.specs.Option.{IfSome, option_or}
use Rattle.cut_lists.proofs.BitSets.{has_bit-zeros}
use Rattle.cut_lists.proofs.Firsts.{found, found_first, found-same, found-more}
use Rattle.cut_detector.proofs.Agreement.{SameEdges, HasObservers, settled_proposal-same}
use Rattle.cut_detector.proofs.Bits.{edges_in-with_edge}
use Rattle.cut_detector.proofs.Settling.{is_settled-empty}
use Rattle.cut_rings.proofs.Observers.{observer_below}

-- what is made of a set of edges at place m
abbrev pub made : Layout → Rule → EdgeSet → ℕ → Proposal
made r rule E m = record { members = stable_members r rule E; at = m }

-- a longer list proposes what the list did, or else at its own end
abbrev own_end : Layout → Rule → List Edge → Edge → Option Proposal
own_end r rule edges edge = settled_proposal r rule (set_of (edges ++ edge ∷ [])) (length edges + 1)

proposal_of_push : (r : Layout) (rule : Rule) (edges : List Edge) (edge : Edge)
    → proposal_of r rule (first_of (edges ++ edge ∷ [])) (length (edges ++ edge ∷ []))
    ≡ option_or (proposal_of r rule (first_of edges) (length edges)) (own_end r rule edges edge)
proposal_of_push r rule edges edge =
    let longer : List Edge = edges ++ edge ∷ [] in
    let n : ℕ = length edges in
    let one : length longer ≡ n + 1 = length-append edges (edge ∷ []) in
    let before = found-same (is_settled r rule) (made r rule) (first_of longer) (first_of edges) n
    (λ m low high. ap set_of (take-append-le m edges (edge ∷ []) high)) in
    let whole : take (n + 1) longer ≡ longer = take_all _ _ (omega arith) in
    ap (proposal_of r rule (first_of longer)) one
    ∙ found-more (is_settled r rule) (made r rule) (first_of longer) n
    ∙ ap (λ q. option_or q (settled_proposal r rule (first_of longer (n + 1)) (n + 1))) before
    ∙ ap (λ xs. option_or (found (is_settled r rule) (made r rule) (first_of edges) n)
    (settled_proposal r rule (set_of xs) (n + 1))) whole

abbrev settles : Layout → Rule → (ℕ → EdgeSet) → ℕ → Bool
settles r rule E n = is_settled r rule (E n)

-- a proposal is made at one of the places
at_within : (r : Layout) (rule : Rule) (E : ℕ → EdgeSet) (count : ℕ)
    → IfSome (proposal_of r rule E count) (λ p. p.at ≤ count)
at_within r rule E count = grind (arith, found_first (settles r rule E) 1 count)

-- what it holds of the deliveries up to its proposal it holds of a longer list of them
still_holds : (d : DetectorState) (edges : List Edge) (edge : Edge) (q : Option Proposal)
    → IfSome q (λ p. HoldsFirst d edges p.at) → IfSome q (λ p. p.at ≤ length edges)
    → IfSome q (λ p. HoldsFirst d (edges ++ edge ∷ []) p.at)
still_holds d edges edge None holds within = tt
still_holds d edges edge (Some p) holds within = grind (arith, take-append-le)

-- a detector that has a proposal stays as it is
pub history-settled : (old : DetectorState) (edge : Edge) (edges : List Edge) → is_some old.proposal ≡ true
    → HasDelivered old edges → HasDelivered old (edges ++ edge ∷ [])
history-settled old edge edges some delivered = record {
  proposal = stays old.proposal (own_end old.layout old.rule edges edge) some
      ∙ ap (λ q. option_or q (own_end old.layout old.rule edges edge)) delivered.proposal
      ∙ sym (proposal_of_push old.layout old.rule edges edge);
  deliveries = λ none. absurd (both_ways _ none some);
  edges = λ none. absurd (both_ways _ none some);
  settled = still_holds old edges edge old.proposal delivered.settled
      (subst (λ q. IfSome q (λ p. p.at ≤ length edges)) (sym delivered.proposal)
      (at_within old.layout old.rule (first_of edges) (length edges)));
}
  where
    stays : (q o : Option Proposal) → is_some q ≡ true → q ≡ option_or q o
    stays (Some p) o e = refl
    stays None o e = cc

-- what a delivery changes, to a detector that is seen as `old`
pub record Delivers (d e : Inside) (old : DetectorState) (edge : Edge) : Type 0 where
  pub seen : state_of d ≡ old
  pub layout : layout_of e ≡ layout_of d
  pub rule : e.reports.tally.rule ≡ d.reports.tally.rule
  pub reported : e.reports.reported.masks.items ≡ with_edge d.reports.reported.masks.items edge
  pub deliveries : e.deliveries ≡ d.deliveries + 1
  pub within : IsTrue (is_edge_of old.rule.k old.layout.nodes edge)

pub takes : (d e : Inside) (old : DetectorState) (edge : Edge) → Delivers d e old edge → TakesEdge old (state_of e) edge
takes d e old edge delivers =
    let reports = d.reports in
    let subject : edge.subject < old.layout.nodes = ltb-true _ _
    (and_parts (nat_lt edge.ring old.rule.k) _ delivers.within).1 in
    let inside : edge.subject < length reports.reported.masks.items = omega
    (arith, ap (λ x. x.layout.nodes) delivers.seen, reports.reported_long, reports.reported.masks.ok.0) in
    subst (λ x. TakesEdge x (state_of e) edge) delivers.seen (record {
      deliveries = delivers.deliveries;
      edges = λ ring p below process. ap (λ xs. edges_in xs ring p) delivers.reported
          ∙ edges_in-with_edge reports.reported.masks.items edge inside ring p;
      proposal =
          grind arith;
    })

-- whether it proposes is whether it is settled
pub is_some-proposal : (d : Inside) (old : DetectorState) (b : Bool) → state_of d ≡ old → b
    ≡ is_settled (layout_of d) (rule_of_inside d) (reported_of d) → is_some old.proposal ≡ b
is_some-proposal d old b seen is =
    grind arith

-- a delivery that counts makes the history longer by one
pub history : (d e : Inside) (old : DetectorState) (edge : Edge) (edges : List Edge) → Delivers d e old edge
    → is_some old.proposal ≡ false → HasDelivered old edges → HasDelivered (state_of e) (edges ++ edge ∷ [])
history d e old edge edges delivers none delivered =
    let taken = takes d e old edge delivers in
    let longer : List Edge = edges ++ edge ∷ [] in
    let count : e.deliveries ≡ length edges + 1 = taken.deliveries ∙ ap (λ n. n + 1) (delivered.deliveries none) in
    let layout : layout_of e ≡ old.layout = delivers.layout ∙ ap (λ x. x.layout) delivers.seen in
    let rule : rule_of_inside e ≡ old.rule = ap rule_in delivers.rule ∙ ap (λ x. x.rule) delivers.seen in
    let k = ap (λ x. x.k) rule in
    let nodes = ap (λ x. x.nodes) layout in
    record {
      proposal =
          taken.proposal
          ∙ ap (settled_proposal old.layout old.rule (reported_of e)) count
          ∙ settled_proposal-same old.layout old.rule (reported_of e) (set_of longer) (length edges + 1) observers same
          ∙ starts old.proposal _ none
          ∙ ap (λ q. option_or q (own_end old.layout old.rule edges edge)) delivered.proposal
          ∙ sym (proposal_of_push old.layout old.rule edges edge)
          ∙ ap (λ l. proposal_of l old.rule (first_of longer) (length longer)) (sym layout)
          ∙ ap (λ x. proposal_of (layout_of e) x (first_of longer) (length longer)) (sym rule);
      deliveries = λ _. count ∙ sym (length-append edges (edge ∷ []));
      edges = λ _ ring p below process. same.same ring p (omega (arith, k)) (omega (arith, nodes));
      settled = here (is_settled (layout_of e) (rule_of_inside e) (reported_of e)) _
          (take_all _ _ (omega (arith, count, length-append edges (edge ∷ []))))
          (λ ring p below process. same.same ring p (omega (arith, k)) (omega (arith, nodes)));
    }
  where
    here : (b : Bool) (members : List ℕ) → take e.deliveries (edges ++ edge ∷ []) ≡ edges ++ edge ∷ []
        → ((ring p : ℕ) → ring < (rule_of_inside e).k → p < (layout_of e).nodes → reported_of e ring p
        ≡ set_of (edges ++ edge ∷ []) ring p)
        → IfSome {T = Proposal} (cond b (Some (record { members = members; at = e.deliveries })) None)
        (λ p. HoldsFirst (state_of e) (edges ++ edge ∷ []) p.at)
    here false members whole all = tt
    here true members whole all = grind arith

    starts : (q o : Option Proposal) → is_some q ≡ false → o ≡ option_or q o
    starts None o e = refl
    starts (Some p) o e = cc

    -- on its rings each process has an observer
    observers : HasObservers old.layout old.rule.k
    observers = grind (arith, observer_below)

    same : SameEdges old.rule.k old.layout.nodes (reported_of e) (set_of (edges ++ edge ∷ []))
    same = record {
      same = λ ring p below process.
          (takes d e old edge delivers).edges ring p below process
          ∙ ap (λ b. b || is_edge ring p edge) (delivered.edges none ring p below process)
          ∙ ap (λ b. set_of edges ring p || b) (sym (or-false (is_edge ring p edge)))
          ∙ sym (list_any-append (λ e. is_edge ring p e) edges (edge ∷ []));
    }

-- a detector that has no reported edge
pub record IsEmpty (d : Inside) (r : Layout) (x : Rule) : Type 0 where
  pub layout : layout_of d ≡ r
  pub rule : rule_of_inside d ≡ x
  pub reported : d.reports.reported.masks.items ≡ replicate r.nodes 0
  pub deliveries : d.deliveries ≡ 0

pub unsettled : (d : Inside) (r : Layout) (rule : Rule) → IsEmpty d r rule
    → is_settled (layout_of d) (rule_of_inside d) (reported_of d) ≡ false
unsettled d r rule empty =
    grind (arith, is_settled-empty)

pub is_fresh : (d : Inside) (r : Layout) (rule : Rule) → IsEmpty d r rule → state_of d ≡ fresh r rule
is_fresh d r rule empty =
    grind (arith, unsettled)

-- nothing has been delivered to a fresh one
pub fresh-delivered : (r : Layout) (rule : Rule) → HasDelivered (fresh r rule) []
fresh-delivered r rule = grind (arith, has_bit-zeros)

pub IsDetector-empty : (d : Inside) (r : Layout) (rule : Rule) → IsEmpty d r rule → (layout_of d).nodes
    ≤ vec_capacity d.members → IsDetector d
IsDetector-empty d r rule empty room = grind (arith, unsettled)
