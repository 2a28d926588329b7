-- Each delivery brings one edge at most, so where L = H it makes one process stable at most.
use Rattle.std.proofs.Common.{◌≡◌, ℕ, suc, ◌<◌, ◌≤◌, true, false, not, List, [], ◌∷◌, Option, Some, None, zero}
use Rattle.std.proofs.Common.{length, nat_lt, inl, inr, refl, sym, ap, ◌∙◌, arith, subst}
use Rattle.cut_laws.proofs.Words.{Cell, Contains, Delivery, Edge, EdgeNumbersNameEdges, EdgeSet, IfSome}
use Rattle.cut_laws.proofs.Words.{IsOfLeastPlace, IsSettled, IsStrictlyIncreasing, IsTrue, Layout, MatchOption}
use Rattle.cut_laws.proofs.Words.{NoneIsHeardOfAtFirst, NoneIsStableUnheard, Proposal, ProposesAtFirstStable}
use Rattle.cut_laws.proofs.Words.{ProposesAtLeastPlace, Rule, Source, StableByReportsAlone, Values, all_deliveries}
use Rattle.cut_laws.proofs.Words.{compare_deliveries, delivery_place, delivery_rank, early, edge_number, is_edge}
use Rattle.cut_laws.proofs.Words.{is_stable, key_at, receiver_proposal, reports_of, rule_of, ◌&&◌, ◌↔◌}
use Rattle.std.specs.Cmp.{IsTotalOrder}
use Rattle.std.specs.declared.cmp.Ordering.{Ordering}
use Rattle.std.specs.declared.cmp.Ordering.TheVariants.{Less, Equal, Greater}
use Rattle.std.specs.Ordering.{nat_cmp, ordering_reverse, ordering_then}
use Rattle.std.proofs.lemmas.Bool.{and_from, and_parts, both_ways, cases_lt, eqb-true, lt-ltb, ltb-true, not-true}
use Rattle.std.proofs.lemmas.Cmp.{nat_cmp_total, then_total, on_total}
use Rattle.std.proofs.lemmas.List.Folds.{Any-from_list_any, list_any_at}
use Rattle.std.proofs.lemmas.Map.Lookups.{exact_unsigned}
use Rattle.cut_lists.proofs.Ranks.{rank-less}
use Rattle.cut_laws.proofs.Counting.{gained}

-- a list that rises strictly and has one number alone
pub one_alone : (xs : List ℕ) (s : ℕ) → IsStrictlyIncreasing xs → Contains xs s
    → ((q : ℕ) → Contains xs q → q ≡ s) → length xs ≡ 1
one_alone [] s rises at alone = absurd (omega (arith, at.1))
one_alone (x ∷ []) s rises at alone = refl
one_alone (x ∷ y ∷ xs) s rises at alone =
    absurd (omega (
      arith,
      rises 0 (omega arith),
      alone x (0, omega arith, refl),
      alone y (1, omega arith, refl),
    ))

-- two orderings, of which the second decides where the first ties, tie where both do
both_tie : (a b : Ordering) → ordering_then a b ≡ Equal → (a ≡ Equal) × (b ≡ Equal)
both_tie Less b tie = absurd (let never : Less ≡ Equal = tie in cc)
both_tie Equal b tie = (refl, tie)
both_tie Greater b tie = absurd (let never : Greater ≡ Equal = tie in cc)

module _ (d : Source) (j k : ℕ) (edges : List Edge) (copies : ℕ) where
  abbrev all : List Delivery
  all = all_deliveries edges copies

  abbrev rank : Delivery → ℕ
  rank x = delivery_rank d j k edges copies x

  abbrev compare : Delivery → Delivery → Ordering
  compare y x = compare_deliveries d j k y x

  -- a delivery that newly brings an edge
  pub record Brings (n ring s : ℕ) : Type 0 where
    pub delivery : Delivery
    pub among : Contains all delivery
    pub ring_is : delivery.edge.ring ≡ ring
    pub subject_is : delivery.edge.subject ≡ s
    pub place : rank delivery ≡ n

  -- what is heard of after one delivery more, and wasn't before, is brought by it
  pub brought : (n ring s : ℕ) → early d j k edges copies (suc n) ring s ≡ true
      → early d j k edges copies n ring s ≡ false → Brings n ring s
  brought n ring s heard before =
      let at = Any-from_list_any (λ x. is_edge ring s x.edge && nat_lt (rank x) (suc n)) all heard in
      let parts = and_parts (is_edge ring s at.1.edge) (nat_lt (rank at.1) (suc n)) at.4 in
      let same = and_parts _ _ parts.0 in
      let within = ltb-true (rank at.1) (suc n) parts.1 in
      let late : n ≤ rank at.1 = elim (cases_lt (rank at.1) n) [
        | inl low ↦ absurd (both_ways _ before
            (list_any_at (λ x. is_edge ring s x.edge && nat_lt (rank x) n) all at.0 at.1 at.2
            (ap (λ x. is_edge ring s x.edge && nat_lt (rank x) n) at.3
            ∙ and_from _ _ parts.0 (lt-ltb (rank at.1) n low))))
        | inr high ↦ high
      ] in
      record {
        delivery = at.1;
        among = (at.0, at.2, at.3);
        ring_is = eqb-true at.1.edge.ring ring same.0;
        subject_is = eqb-true at.1.edge.subject s same.1;
        place = omega (arith, within, late);
      }

  abbrev key : Delivery → ℕ
  key x = key_at d (delivery_place j k x)

  -- deliveries at one place are of one edge
  same_place : (x y : Delivery) → Contains all x → Contains all y → rank x ≡ rank y
      → edge_number k x.edge ≡ edge_number k y.edge
  same_place x y in-x in-y same = by (compare x y) refl
    where
      total : IsTotalOrder compare
      total = then_total (on_total key nat_cmp_total)
          (then_total (on_total (λ (z : Delivery). edge_number k z.edge) nat_cmp_total)
          (on_total (λ (z : Delivery). z.copy) nat_cmp_total))

      by : (o : Ordering) → compare x y ≡ o → edge_number k x.edge ≡ edge_number k y.edge
      by Less is = absurd (omega (arith, same, rank-less {R = compare} total all x y in-x is))
      by Equal is =
          let later = (both_tie (nat_cmp (key x) (key y)) _ is).1 in
          exact_unsigned (edge_number k x.edge) (edge_number k y.edge)
          (both_tie (nat_cmp (edge_number k x.edge) (edge_number k y.edge)) (nat_cmp x.copy y.copy) later).0
      by Greater is = absurd (omega (
        arith,
        same,
        rank-less {R = compare} total all y x in-y
            (total.antisymm y x ∙ ap ordering_reverse is),
      ))

  -- so edges that one delivery brings are one edge
  one_edge : EdgeNumbersNameEdges → (n ring s other q : ℕ) → ring < k → other < k → (first : Brings n ring s)
      → (second : Brings n other q) → second.delivery.edge ≡ first.delivery.edge
  one_edge names n ring s other q below within first second =
      names k second.delivery.edge first.delivery.edge (omega (arith, within, second.ring_is))
      (omega (arith, below, first.ring_is))
      (same_place second.delivery first.delivery second.among first.among (second.place ∙ sym first.place))

  -- to one process
  pub one_brought : EdgeNumbersNameEdges → (n ring s other q : ℕ) → ring < k → other < k → Brings n ring s
      → Brings n other q → q ≡ s
  one_brought names n ring s other q below within first second =
      sym second.subject_is
      ∙ ap (λ (e : Edge). e.subject) (one_edge names n ring s other q below within first second) ∙ first.subject_is

  -- on one ring
  pub one_ring : EdgeNumbersNameEdges → (n ring s other : ℕ) → ring < k → other < k → Brings n ring s
      → Brings n other s → ring ≡ other
  one_ring names n ring s other below within first second =
      sym first.ring_is
      ∙ sym (ap (λ (e : Edge). e.ring) (one_edge names n ring s other s below within first second))
      ∙ second.ring_is

-- ---- where L = H

pub record KnownOfEdges : Type 0 where
  pub names : EdgeNumbersNameEdges
  pub none_first : NoneIsHeardOfAtFirst
  pub unheard : NoneIsStableUnheard
  pub by_reports : StableByReportsAlone

module _ (known : KnownOfEdges) (v : Values) (c : Cell) (r : Layout) (d : Source) (edges : List Edge) (j : ℕ)
    (low : 1 ≤ c.l) (equal : c.l ≡ c.h) where
  abbrev rule : Rule
  rule = rule_of c.k c.h c.l v.implicit

  abbrev heard : ℕ → EdgeSet
  heard n = early d j c.k edges v.copies n

  abbrev stable_at : ℕ → ℕ → Type 0
  stable_at n s = IsTrue (is_stable r rule (heard n) s)

  -- who becomes stable with a delivery has an edge that it brings
  newly_stable : (n s : ℕ) → stable_at (suc n) s → (stable_at n s → ⊥)
      → (ring : ℕ) × (ring < c.k) × Brings d j c.k edges v.copies n ring s
  newly_stable n s stable before =
      let enough = (known.by_reports r rule (heard (suc n)) s equal).0 stable in
      let few : reports_of rule (heard n) s < c.h = elim (cases_lt (reports_of rule (heard n) s) c.h) [
        | inl less ↦ less
        | inr many ↦ absurd (before ((known.by_reports r rule (heard n) s equal).1 many))
      ] in
      let at = gained (λ ring. heard n ring s) (λ ring. heard (suc n) ring s) c.k (omega (arith, few, enough)) in
      let parts = and_parts (heard (suc n) at.0 s) (not (heard n at.0 s)) at.1.passes in (
        at.0,
        omega (arith, at.1.below),
        brought d j c.k edges v.copies n at.0 s parts.0 (not-true _ parts.1),
      )

  -- none is stable before the first delivery
  none_at_first : (s : ℕ) → stable_at 0 s → ⊥
  none_at_first s = known.unheard r rule (heard 0) s low (omega (arith, equal))
      (λ ring below is. both_ways _ (known.none_first d j c.k edges v.copies ring s) is)

  one_at : (m : ℕ) → 1 ≤ m → IsSettled r rule (heard m) → (members : List ℕ)
      → ((s : ℕ) → Contains members s ↔ ((s < r.nodes) × stable_at m s)) → IsStrictlyIncreasing members
      → ((n s : ℕ) → 1 ≤ n → n < m → s < r.nodes → stable_at n s → ⊥) → length members ≡ 1
  one_at zero some settled members are rises earlier = absurd (omega (arith, some))
  one_at (suc n) some settled members are rises earlier =
      let s : ℕ = settled.some_stable.0 in
      let first = newly_stable n s settled.some_stable.2 (not_before s settled.some_stable.1) in
      one_alone members s rises ((are s).1 (settled.some_stable.1, settled.some_stable.2)) (λ q at.
      (let found = (are q).0 at in
      let second = newly_stable n q found.1 (not_before q found.0) in
      one_brought d j c.k edges v.copies known.names n first.0 s second.0 q first.1 second.1 first.2 second.2))
    where
      not_before : (q : ℕ) → q < r.nodes → stable_at n q → ⊥
      not_before q process stable = elim (cases_lt 0 n) [
        | inl after ↦ earlier n q (omega (arith, after)) (omega arith) process stable
        | inr at_first ↦ none_at_first q (subst (λ m. stable_at m q) (omega (arith, at_first)) stable)
      ]

  abbrev count : ℕ
  count = length (all_deliveries edges v.copies)

  abbrev AtLeast : Option Proposal → Type 0
  AtLeast o = MatchOption o ((n : ℕ) → 1 ≤ n → n ≤ count → IsSettled r rule (heard n) → ⊥)
      (IsOfLeastPlace r rule heard count)

  abbrev AtFirst : Option Proposal → Type 0
  AtFirst o = MatchOption o ((n s : ℕ) → 1 ≤ n → n ≤ count → s < r.nodes → stable_at n s → ⊥)
      (λ p. (n s : ℕ) → 1 ≤ n → n < p.at → s < r.nodes → stable_at n s → ⊥)

  -- so a proposal has one member
  pub one_process : ProposesAtLeastPlace → ProposesAtFirstStable
      → IfSome (receiver_proposal v c r d edges j) (λ p. length p.members ≡ 1)
  one_process proposes first =
      elim (receiver_proposal v c r d edges j) as (λ o. AtLeast o → AtFirst o
      → IfSome o (λ p. length p.members ≡ 1)) [
        | None ↦ λ none never. tt
        | Some p ↦ λ is earlier.
            one_at p.at is.from_first is.settled p.members is.members is.ascending earlier
      ] (proposes r rule heard count) (first r rule heard count equal)
