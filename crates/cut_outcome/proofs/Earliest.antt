-- How soon receivers propose: each ring of a process is heard of by a delivery of its own, so not before as
-- many deliveries as a watermark says.
use Rattle.std.proofs.Common.{◌≡◌, ℕ, ◌-◌, ◌*◌, ◌<◌, ◌≤◌, Bool, true, false, ◌&&◌, ◌||◌, List, Option, Some, None}
use Rattle.std.proofs.Common.{MatchOption, filter, length, get_or, inl, inr, refl, sym, ap, ◌∙◌, arith, nat_lt}
use Rattle.cut_outcome.proofs.Words.{Contains, IfSome, range_with_len, Cell, Values, cell_at, outcome, rings_of}
use Rattle.cut_outcome.proofs.Words.{deliveries_at, rule_of, source_of, Edge, EdgeSet, Layout, observer_of, edge_number}
use Rattle.cut_outcome.proofs.Words.{is_edge, Source, key_at, Delivery, all_deliveries, compare_deliveries}
use Rattle.cut_outcome.proofs.Words.{delivery_place, delivery_rank, early, Rule, reports_of, ring_count, is_full}
use Rattle.cut_outcome.proofs.Words.{is_reported, is_stable, full_count, IsOfLeastPlace, IsSettled}
use Rattle.cut_outcome.proofs.Words.{ProposesAtLeastPlace}
use Rattle.cut_outcome.proofs.Words.{Proposal}
use Rattle.std.specs.declared.cmp.Ordering.{Ordering}
use Rattle.std.specs.declared.cmp.Ordering.TheVariants.{Less, Equal, Greater}
use Rattle.std.specs.Ordering.{nat_cmp, ordering_then, ordering_reverse}
use Rattle.std.specs.Cmp.{IsTotalOrder}
use Rattle.std.proofs.lemmas.Bool.{and_parts, cases_Bool, cases_lt, eqb-true, leb-true, ltb-true}
use Rattle.std.proofs.lemmas.Cmp.{nat_cmp_total, then_total, on_total}
use Rattle.std.proofs.lemmas.Map.Lookups.{exact_unsigned}
use Rattle.std.proofs.lemmas.Map.Keys.{below_from_sorted, sorted_from_strictly_increasing}
use Rattle.std.proofs.lemmas.List.Elements.{Contains-get_or}
use Rattle.std.proofs.lemmas.List.Folds.{Any-from_list_any}
use Rattle.std.proofs.lemmas.List.Kept.{IsStrictlyIncreasing-filter}
use Rattle.std.proofs.lemmas.List.Sums.{length-filter}
use Rattle.std.proofs.Math.Bool.{or-false}
use Rattle.cut_lists.proofs.Pigeonhole.{pigeonhole}
use Rattle.cut_lists.proofs.Ranges.{Contains-filter_of, count_by_agree, range-rises}
use Rattle.cut_lists.proofs.Ranks.{rank-less}
use Rattle.cut_fields.specs.declared.version.Version.TheVariants.{Two}
use Rattle.cut_plan.specs.Failing.{version_of}
use Rattle.cut_outcome.proofs.Outcomes.{edges_in, proposed_in, settled_from}

-- ---- as many rings as deliveries

numbers_tie : (a b c : Ordering) → ordering_then a (ordering_then b c) ≡ Equal → b ≡ Equal
numbers_tie Equal Equal c e = refl
numbers_tie Equal Less c e = cc
numbers_tie Equal Greater c e = cc
numbers_tie Less b c e = cc
numbers_tie Greater b c e = cc

module _ (d : Source) (j k : ℕ) (edges : List Edge) (copies n s : ℕ) where
  abbrev all : List Delivery
  all = all_deliveries edges copies

  abbrev rank : Delivery → ℕ
  rank x = delivery_rank d j k edges copies x

  abbrev compare : Delivery → Delivery → Ordering
  compare = compare_deliveries d j k

  abbrev heard : ℕ → Bool
  heard ring = early d j k edges copies n ring s

  -- a delivery of the ring's edge that has fewer than n before it
  record Brings (ring : ℕ) (x : Delivery) : Type 0 where
    listed : Contains all x
    on_ring : x.edge.ring ≡ ring
    about : x.edge.subject ≡ s
    soon : rank x < n

  brought : (ring : ℕ) → heard ring ≡ true → (x : Delivery) × Brings ring x
  brought ring is =
      let at = Any-from_list_any (λ (x : Delivery). is_edge ring s x.edge && nat_lt (rank x) n) all is in
      let x : Delivery = get_or all at.0 at.1 in
      let passes = and_parts (is_edge ring s x.edge) (nat_lt (rank x) n)
      (ap (λ (y : Delivery). is_edge ring s y.edge && nat_lt (rank y) n) at.3 ∙ at.4) in
      let edge = and_parts _ _ passes.0 in (
        x,
        record {
          listed = Contains-get_or all at.0 at.1 at.2;
          on_ring = eqb-true _ _ edge.0;
          about = eqb-true _ _ edge.1;
          soon = ltb-true (rank x) n passes.1;
        },
      )

  -- how many come before that delivery, for a ring that is heard of
  rank_by : (ring : ℕ) (b : Bool) → heard ring ≡ b → ℕ
  rank_by ring true is = rank (brought ring is).0
  rank_by ring false is = 0

  rank_is : (ring : ℕ) (b : Bool) (e : heard ring ≡ b) → b ≡ true
      → (x : Delivery) × (rank_by ring b e ≡ rank x) × Brings ring x
  unfolding rank_by
  rank_is ring true e is = ((brought ring e).0, refl, (brought ring e).1)
  rank_is ring false e is = absurd (cc)

  total : IsTotalOrder compare
  total = then_total (on_total (λ x. key_at d (delivery_place j k x)) nat_cmp_total)
      (then_total (on_total (λ (x : Delivery). edge_number k x.edge) nat_cmp_total)
      (on_total (λ (x : Delivery). x.copy) nat_cmp_total))

  -- deliveries on two rings have different ranks
  same_ring : (one other : ℕ) (x y : Delivery) → Brings one x → Brings other y → rank x ≡ rank y → one ≡ other
  same_ring one other x y first second same = by (compare x y) refl
    where
      by : (o : Ordering) → compare x y ≡ o → one ≡ other
      by Less is = absurd (let less = rank-less total all x y first.listed is in omega (arith, same, less))
      by Greater is = absurd (
          let turned : compare y x ≡ Less = total.antisymm y x ∙ ap ordering_reverse is in
          let less = rank-less total all y x second.listed turned in
          omega (arith, same, less))
      by Equal is =
          let number : edge_number k x.edge ≡ edge_number k y.edge =
          exact_unsigned _ _ (numbers_tie (nat_cmp (key_at d (delivery_place j k x)) (key_at d (delivery_place j k y)))
          _ _ is) in
          let subject : x.edge.subject * k ≡ y.edge.subject * k = ap (λ q. q * k) (first.about ∙ sym second.about) in
          omega (arith, number, subject, first.on_ring, second.on_ring)

  -- a process has been heard of on no more rings than there were deliveries
  pub few_rings : ring_count k (λ ring q. early d j k edges copies n ring q) s ≤ n
  few_rings =
      let rings : List ℕ = filter heard (range_with_len 0 k) in
      let up = sorted_from_strictly_increasing rings
      (IsStrictlyIncreasing-filter heard (range_with_len 0 k) (range-rises 0 k)) in
      let ring : ℕ → ℕ = λ i. get_or rings i 0 in
      let is : (i : ℕ) → i < length rings → heard (ring i) ≡ true =
      λ i low. (Contains-filter_of heard 0 k (ring i) (Contains-get_or rings i 0 low)).passes in
      let rank_at : ℕ → ℕ = λ i. rank_by (ring i) (heard (ring i)) refl in
      let reported : (i : ℕ) → i < length rings → (x : Delivery) × (rank_at i ≡ rank x) × Brings (ring i) x =
      λ i low. rank_is (ring i) (heard (ring i)) refl (is i low) in
      let few = pigeonhole (length rings) n rank_at
      (λ i low. (let x = reported i low in let soon = x.2.soon in omega (arith, x.1, soon)))
      (λ a b low_a low_b same.
      (let x = reported a low_a in
      let y = reported b low_b in
      let one : ring a ≡ ring b = same_ring (ring a) (ring b) x.0 y.0 x.2 y.2 (sym x.1 ∙ same ∙ y.1) in
      elim (cases_lt a b) [
        | inl less ↦ absurd (let rises = below_from_sorted rings a b 0 up less low_b in omega (arith, one, rises))
        | inr more ↦ elim (cases_lt b a) [
          | inl less ↦ absurd (let rises = below_from_sorted rings b a 0 up less low_a in omega (arith, one, rises))
          | inr least ↦ omega arith
        ]
      ])) in
      omega (arith, few, length-filter heard (range_with_len 0 k))

-- ---- how many reports a stable process has

gains_none : (i x y : Bool) → i && x ≡ false → i && x && y ≡ false
gains_none i x y e = grind arith

no_alerts : (i x : Bool) → i ≡ false → i && x ≡ false
no_alerts i x e = grind arith

unreported : (i x : Bool) → x ≡ false → i && x ≡ false
unreported i x e = grind arith

module _ (r : Layout) (rule : Rule) (E : EdgeSet) (s : ℕ) where
  -- where it gains no ring, only reports count
  only_reports : rule.implicit && is_reported rule E s ≡ false → full_count r rule E s ≡ reports_of rule E s
  unfolding is_full
  only_reports none = count_by_agree _ _ 0 rule.k (record {
    same = λ ring _ _.
        ap (λ b. E ring s || b)
        (gains_none rule.implicit (is_reported rule E s) (is_reported rule E (observer_of r ring s)) none)
        ∙ or-false (E ring s);
  })

  -- without implicit alerts it has as many as the high watermark
  high_reports : rule.implicit ≡ false → is_stable r rule E s ≡ true → rule.h ≤ reports_of rule E s
  unfolding is_stable
  high_reports off stable =
      let same = only_reports (no_alerts rule.implicit (is_reported rule E s) off) in
      omega (arith, same, leb-true rule.h (full_count r rule E s) stable)

  -- and with them as many as the low one
  low_reports : rule.l ≤ rule.h → is_stable r rule E s ≡ true → rule.l ≤ reports_of rule E s
  unfolding is_stable is_reported
  low_reports low stable = elim (cases_Bool (is_reported rule E s)) [
    | inl reported ↦ leb-true rule.l (reports_of rule E s) reported
    | inr few ↦ (
        let same = only_reports (unreported rule.implicit (is_reported rule E s) few) in
        omega (arith, same, low, leb-true rule.h (full_count r rule E s) stable))
  ]

-- ---- the places of proposals

module _ (proposes : ProposesAtLeastPlace) (v : Values) (t : ℕ) where
  abbrev cell : Cell
  cell = cell_at v t

  abbrev rule : Rule
  rule = rule_of cell.k cell.h cell.l v.implicit

  abbrev heard_at : ℕ → ℕ → EdgeSet
  heard_at j n = early (source_of v.seed t) j cell.k (edges_in v t) v.copies n

  -- a receiver proposes where it has heard of as many rings of a stable process, which are deliveries
  placed_from : (b : ℕ)
      → ((E : EdgeSet) (s : ℕ) → is_stable (rings_of v) rule E s ≡ true → b ≤ reports_of rule E s)
      → (j : ℕ) → IfSome (proposed_in v t j) (λ p. b ≤ p.at)
  placed_from b reports j = by (proposed_in v t j) (proposes (rings_of v) rule (heard_at j) (deliveries_at v t))
    where
      by : (q : Option Proposal)
          → MatchOption q ((n : ℕ) → 1 ≤ n → n ≤ deliveries_at v t → IsSettled (rings_of v) rule (heard_at j n) → ⊥)
          (IsOfLeastPlace (rings_of v) rule (heard_at j) (deliveries_at v t))
          → IfSome q (λ p. b ≤ p.at)
      by None none = tt
      by (Some p) is =
          let stable = is.settled.some_stable in
          let many = reports (heard_at j p.at) stable.0 stable.2 in
          let few = few_rings (source_of v.seed t) j cell.k (edges_in v t) v.copies p.at stable.0 in
          omega (arith, many, few)

  pub reaches_high : version_of v.failing ≡ Two → v.implicit ≡ false
      → cell.h * ((outcome v t).receivers - (outcome v t).silent) ≤ (outcome v t).settled
  reaches_high two off =
      settled_from v t cell.h two (placed_from cell.h (λ E s. high_reports (rings_of v) rule E s off))

  pub reaches_low : version_of v.failing ≡ Two → cell.l ≤ cell.h
      → cell.l * ((outcome v t).receivers - (outcome v t).silent) ≤ (outcome v t).settled
  reaches_low two low =
      settled_from v t cell.l two (placed_from cell.l (λ E s. low_reports (rings_of v) rule E s low))
