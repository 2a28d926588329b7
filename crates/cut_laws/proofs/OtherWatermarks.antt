-- Two plans that differ in one watermark, trial by trial.
use Rattle.std.proofs.Common.{◌∙◌, ◌≡◌, ℕ, ◌+◌, ◌*◌, ◌≤◌, List, [], ◌∷◌, Option, Some, None, length, map, inl, inr}
use Rattle.std.proofs.Common.{refl, sym, ap, arith, subst}
use Rattle.cut_laws.proofs.Words.{AreMoreCautious, Assignment, Cell, EdgeSet, HeardOfStays, IfSome, IsOfLeastPlace}
use Rattle.cut_laws.proofs.Words.{IsSettled, Layout, MatchOption, Proposal, ProposesAtLeastPlace, ProposesBefore}
use Rattle.cut_laws.proofs.Words.{Source, Totals, Values, alert_list, all_deliveries, cell_at, cell_outcome, count_by}
use Rattle.cut_laws.proofs.Words.{drawn, early, judged, outcome, place_of, proposal_of, proposed_at}
use Rattle.cut_laws.proofs.Words.{receiver_proposal, receivers_of, rings_of, rule_of, settled_of, source_of, sum_by}
use Rattle.cut_laws.proofs.Words.{sum_of, with_marks}
use Rattle.cut_detector.specs.Laws.{AGapWiderAtBothEndsProposesLater, AWiderGapProposesLater}
use Rattle.cut_fields.specs.declared.version.Version.{Version}
use Rattle.cut_fields.specs.declared.version.Version.TheVariants.{One, Two}
use Rattle.cut_plan.specs.Failing.{version_of}
use Rattle.cut_outcome.specs.Laws.{AWiderGapHasFewerConflicts, HigherHHasFewerConflicts}
use Rattle.cut_laws.specs.OtherWatermarks.{MayLowerL, MayRaiseH, WaitsLonger, waited, with_h, with_l}
use Rattle.std.proofs.lemmas.List.Sums.{sum_by-cons}
use Rattle.std.proofs.lemmas.Nat.{mul-le}
use Rattle.std.proofs.Math.Nat.{add-mul}
use Rattle.cut_laws.proofs.Cells.{lowered_at, raised_at}
use Rattle.cut_laws.proofs.Counting.{bit}

-- ---- sums

pub sums_cautious : (v w : Values) → ((t : ℕ) → AreMoreCautious (outcome v t) (outcome w t)) → (ts : List ℕ)
    → AreMoreCautious (sum_of v ts) (sum_of w ts)
sums_cautious v w each [] = grind arith
sums_cautious v w each (t ∷ ts) =
    let here = each t in
    search (arith, sum_by-cons, sums_cautious v w each ts)

-- ---- waiting

-- after how many deliveries one receiver proposes, or all where it doesn't
abbrev waits : Assignment → ℕ → Option Proposal → ℕ
waits a count o = place_of o + bit (judged a o).silent * count

waits_longer : (a : Assignment) (count : ℕ) (p q : Option Proposal) → IfSome p (λ x. x.at ≤ count)
    → ProposesBefore p q → waits a count p ≤ waits a count q
waits_longer a count None None within before = omega arith
waits_longer a count (Some p) None within before = omega (arith, within)
waits_longer a count None (Some q) within before = absurd before
waits_longer a count (Some p) (Some q) within before = omega (arith, before.0)

-- added up over receivers
abbrev all_wait : Assignment → ℕ → List (Option Proposal) → ℕ
all_wait a count os = sum_by place_of os + count_by (λ o. (judged a o).silent) os * count

all_wait_more : (a : Assignment) (count : ℕ) (o : Option Proposal) (os : List (Option Proposal))
    → all_wait a count (o ∷ os) ≡ waits a count o + all_wait a count os
all_wait_more a count o os = omega (
  arith,
  sum_by-cons place_of o os,
  ap (λ n. n * count) (sum_by-cons (λ p. bit (judged a p).silent) o os),
  add-mul (bit (judged a o).silent) (count_by (λ p. (judged a p).silent) os) count,
)

all_wait_longer : (a : Assignment) (count : ℕ) (P Q : ℕ → Option Proposal)
    → ((j : ℕ) → waits a count (P j) ≤ waits a count (Q j)) → (rs : List ℕ)
    → all_wait a count (map P rs) ≤ all_wait a count (map Q rs)
all_wait_longer a count P Q each [] = omega arith
all_wait_longer a count P Q each (r ∷ rs) = grind (arith, all_wait_more, all_wait_longer a count P Q each rs)

-- as a plan's version asks for places
settled_longer : (version : Version) (a : Assignment) (count : ℕ) (ps qs : List (Option Proposal))
    → all_wait a count ps ≤ all_wait a count qs
    → count_by (λ o. (judged a o).silent) ps ≤ count_by (λ o. (judged a o).silent) qs
    → settled_of version ps + count_by (λ o. (judged a o).silent) ps * count
    ≤ settled_of version qs + count_by (λ o. (judged a o).silent) qs * count
settled_longer One a count ps qs longer silent = grind (arith, mul-le)
settled_longer Two a count ps qs longer silent = longer

-- ---- a trial, by its cell and by the same with other watermarks

module _ (v : Values) (r : Layout) (d : Source) where
  abbrev roles : Cell → Assignment
  roles c = drawn v c.f d r

  abbrev proposed : Cell → ℕ → Option Proposal
  proposed c j = receiver_proposal v c r d (alert_list r (roles c) c.k) j

  abbrev deliveries : Cell → ℕ
  deliveries c = length (all_deliveries (alert_list r (roles c) c.k) v.copies)

  pub record IsLonger (c other : Cell) : Type 0 where
    pub cautious : AreMoreCautious (cell_outcome v c r d) (cell_outcome v other r d)
    pub receivers : (j : ℕ) → ProposesBefore (proposed c j) (proposed other j)
    pub as_many : deliveries other ≡ deliveries c
    pub waits : waited (deliveries c) (cell_outcome v c r d) ≤ waited (deliveries other) (cell_outcome v other r d)

  before_itself : (o : Option Proposal) → ProposesBefore o o
  before_itself None = tt
  before_itself (Some p) = (omega arith, λ s at. at)

  -- a cell and itself
  pub itself : (c : Cell) → IsLonger c c
  itself c = record {
    cautious = record {
      receivers = refl;
      conflicts = omega arith;
      silent = omega arith;
      extra = omega arith;
    };
    receivers = λ j. before_itself (proposed c j);
    as_many = refl;
    waits = omega arith;
  }

  within_all : ProposesAtLeastPlace → (c : Cell) (j : ℕ) → IfSome (proposed c j) (λ p. p.at ≤ deliveries c)
  within_all proposes c j =
      let heard : ℕ → EdgeSet = λ n. early d j c.k (alert_list r (roles c) c.k) v.copies n in
      elim (proposed c j) as (λ o. MatchOption o
      ((n : ℕ) → 1 ≤ n → n ≤ deliveries c → IsSettled r (rule_of c.k c.h c.l v.implicit) (heard n) → ⊥)
      (IsOfLeastPlace r (rule_of c.k c.h c.l v.implicit) heard (deliveries c))
      → IfSome o (λ p. p.at ≤ deliveries c)) [
        | None ↦ λ none. tt
        | Some p ↦ λ is. is.to_last
      ] (proposes r (rule_of c.k c.h c.l v.implicit) heard (deliveries c))

  pub longer : ProposesAtLeastPlace → (c : Cell) (h l : ℕ)
      → AreMoreCautious (cell_outcome v c r d) (cell_outcome v (with_marks c h l) r d)
      → ((j : ℕ) → ProposesBefore (proposed c j) (proposed (with_marks c h l) j)) → IsLonger c (with_marks c h l)
  longer proposes c h l cautious before = record {
    cautious = cautious;
    receivers = before;
    as_many = refl;
    waits = settled_longer (version_of v.failing) (roles c) (deliveries c) (map (proposed c) (receivers_of (roles c)))
        (map (proposed (with_marks c h l)) (receivers_of (roles c)))
        (all_wait_longer (roles c) (deliveries c) (proposed c) (proposed (with_marks c h l))
        (λ j. waits_longer (roles c) (deliveries c) (proposed c j) (proposed (with_marks c h l) j)
        (within_all proposes c j) (before j))
        (receivers_of (roles c)))
        cautious.silent;
  }

-- ---- a higher H

pub higher_longer : ProposesAtLeastPlace → HeardOfStays → AWiderGapProposesLater → HigherHHasFewerConflicts
    → (v : Values) (x y : ℕ) → MayRaiseH v x y → WaitsLonger v (with_h v y)
unfolding outcome
higher_longer proposes stays later fewer v x y may = record {
  trials = λ t. (each t).cautious;
  sums = sums_cautious v (with_h v y) (λ t. (each t).cautious);
  receivers = λ t. (each t).receivers;
  deliveries = λ t. (each t).as_many;
  waits = λ t. (each t).waits;
}
  where
    each : (t : ℕ) → IsLonger v (rings_of v) (source_of v.seed t) (cell_at v t) (cell_at (with_h v y) t)
    each t =
        let c : Cell = cell_at v t in
        let r : Layout = rings_of v in
        let d : Source = source_of v.seed t in
        elim (raised_at v x y may t) [
          | inl other ↦ subst (λ o. IsLonger v r d c o) (sym other.0)
              (longer v r d proposes c y c.l (fewer v c y r d other.1.0 other.1.1) (λ j.
              later r c.k y c.h c.l v.implicit
              (λ n. early d j c.k (alert_list r (drawn v c.f d r) c.k) v.copies n)
              (length (all_deliveries (alert_list r (drawn v c.f d r) c.k) v.copies)) other.1.0 other.1.1
              (stays d j c.k (alert_list r (drawn v c.f d r) c.k) v.copies)))
          | inr same ↦ subst (λ o. IsLonger v r d c o) (sym same) (itself v r d c)
        ]

-- ---- a lower L

pub lower_longer : ProposesAtLeastPlace → HeardOfStays → AGapWiderAtBothEndsProposesLater
    → AWiderGapHasFewerConflicts → (v : Values) (x y : ℕ) → MayLowerL v x y → WaitsLonger v (with_l v y)
unfolding outcome
lower_longer proposes stays later fewer v x y may = record {
  trials = λ t. (each t).cautious;
  sums = sums_cautious v (with_l v y) (λ t. (each t).cautious);
  receivers = λ t. (each t).receivers;
  deliveries = λ t. (each t).as_many;
  waits = λ t. (each t).waits;
}
  where
    before : (c : Cell) (r : Layout) (d : Source) (j : ℕ) → c.l ≤ c.h → y ≤ c.l
        → ProposesBefore (proposed v r d c j) (proposed v r d (with_marks c c.h y) j)
    before c r d j gap low =
        let heard : ℕ → EdgeSet = λ n. early d j c.k (alert_list r (drawn v c.f d r) c.k) v.copies n in
        let count : ℕ = length (all_deliveries (alert_list r (drawn v c.f d r) c.k) v.copies) in
        subst (λ b. ProposesBefore (proposal_of r (rule_of c.k c.h c.l b) heard count)
        (proposal_of r (rule_of c.k c.h y b) heard count)) (sym may.explicit)
        (later r c.k c.h c.h c.l y heard count low gap (omega arith)
        (stays d j c.k (alert_list r (drawn v c.f d r) c.k) v.copies))

    each : (t : ℕ) → IsLonger v (rings_of v) (source_of v.seed t) (cell_at v t) (cell_at (with_l v y) t)
    each t =
        let c : Cell = cell_at v t in
        let r : Layout = rings_of v in
        let d : Source = source_of v.seed t in
        elim (lowered_at v x y may t) [
          | inl other ↦ subst (λ o. IsLonger v r d c o) (sym other.0)
              (longer v r d proposes c c.h y (fewer v c c.h y r d may.explicit other.1.1 other.1.0 (omega arith))
              (λ j. before c r d j other.1.0 other.1.1))
          | inr same ↦ subst (λ o. IsLonger v r d c o) (sym same) (itself v r d c)
        ]

-- ---- step by step

cautious_twice : (x y z : Totals) → AreMoreCautious x y → AreMoreCautious y z → AreMoreCautious x z
cautious_twice x y z first second = grind arith

before_twice : (p q o : Option Proposal) → ProposesBefore p q → ProposesBefore q o → ProposesBefore p o
before_twice p q None first second = tt
before_twice p None (Some o) first second = absurd second
before_twice None (Some q) (Some o) first second = absurd first
before_twice (Some p) (Some q) (Some o) first second = grind arith

pub longer_twice : (u v w : Values) → WaitsLonger u v → WaitsLonger v w → WaitsLonger u w
longer_twice u v w first second = record {
  trials = λ t. cautious_twice (outcome u t) (outcome v t) (outcome w t) (first.trials t) (second.trials t);
  sums = λ ts. cautious_twice (sum_of u ts) (sum_of v ts) (sum_of w ts) (first.sums ts) (second.sums ts);
  receivers = λ t j.
      before_twice (proposed_at u t j) (proposed_at v t j) (proposed_at w t j) (first.receivers t j)
      (second.receivers t j);
  deliveries = λ t. second.deliveries t ∙ first.deliveries t;
  waits = λ t. omega (arith, first.waits t, second.waits t);
}
