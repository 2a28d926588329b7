-- After how many deliveries one crash is proposed.
use Rattle.std.proofs.Common.{◌≡◌, ◌≢◌, ℕ, zero, suc, ◌+◌, ◌-◌, ◌*◌, ◌<◌, ◌≤◌, Bool, true, false, not, List, Option}
use Rattle.std.proofs.Common.{Some, [], ◌∷◌, suc-mul, zero-mul, None, length, filter, get_or, inl, inr, refl, sym, ap}
use Rattle.std.proofs.Common.{◌∙◌, arith, subst}
use Rattle.cut_laws.proofs.Words.{All, Assignment, Contains, DeliveriesAreCopiesOfEdges, DeliveriesAreOfGivenEdges}
use Rattle.cut_laws.proofs.Words.{Edge, EdgeNumbersNameEdges, EdgeSet, IfSome, IsOfLeastPlace, IsPlan, IsSettled}
use Rattle.cut_laws.proofs.Words.{IsTrue, Layout, MatchOption, NoneIsHeardOfAtFirst, OnlyCrashes, Proposal}
use Rattle.cut_laws.proofs.Words.{ReceiversAreTheRest, Rule, Values, alerts_at, all_deliveries, cell_at, count_by}
use Rattle.cut_laws.proofs.Words.{early, edges_of, ends_stable, is_alerted, is_stable, is_target, judged, observer_of}
use Rattle.cut_laws.proofs.Words.{outcome, place_of, proposed_at, range_with_len, receivers_of, reports_of, rings_of}
use Rattle.cut_laws.proofs.Words.{roles_at, rule_at, source_of, sum_by, sum_of, trial_count, ◌&&◌, ◌==◌, ◌||◌}
use Rattle.cut_detector.specs.Counts.{full_count, ring_count}
unfoldable use Rattle.cut_detector.specs.Counts.{is_full, is_reported}
use Rattle.cut_detector.specs.Laws.{UnstableAreReportedAndNotStable}
use Rattle.cut_draws.specs.Laws.{DeliveriesAreCountedByCopies, DistinctEdgesHaveAnOrder}
use Rattle.std.proofs.lemmas.Bool.{and_parts, both_ways, cases_Bool, cases_lt, eq-eqb, eqb-true, false_from_ne_true}
use Rattle.std.proofs.lemmas.Bool.{le-leb, leb-true, lt-leb}
use Rattle.cut_fields.specs.declared.version.Version.TheVariants.{Two}
use Rattle.cut_plan.specs.Failing.{version_of}
use Rattle.cut_laws.specs.OneCrash.{HasOneTarget, IsSettledByH, OneCrashIsFound, OneCrashIsFoundByH}
use Rattle.std.proofs.Math.Nat.{add-mul}
use Rattle.std.proofs.lemmas.List.{length-map}
use Rattle.std.proofs.lemmas.List.Elements.{All-head, All-map, All-tail}
use Rattle.std.proofs.lemmas.List.Sums.{sum_by-cons, sum_by-le}
use Rattle.std.proofs.lemmas.Nat.{mul-le}
use Rattle.cut_lists.proofs.Additions.{filter-all}
use Rattle.cut_lists.proofs.Counts.{filter-none}
use Rattle.cut_lists.proofs.Ranges.{All-range_with_len, count_by_agree}
use Rattle.cut_laws.proofs.Counting.{bit, none_counted}
use Rattle.cut_laws.proofs.FewDeliveries.{few_deliveries, few_rings, one_part}
use Rattle.cut_laws.proofs.OneCrash.{Known, observer_is_up, only_one, roles, stable_is_target}
use Rattle.cut_laws.proofs.Plans.{IsCell}
use Rattle.cut_laws.proofs.Roles.{alerted_is_target, never_itself, target_is_alerted}
use Rattle.cut_laws.proofs.Verdicts.{many, proposals, roles_length, target_below}
use Rattle.cut_laws.proofs.Whole.{heard_is_given}
use Rattle.cut_outcome.proofs.Heard.{listed_is_raised}
use Rattle.cut_alerts.proofs.Grouped.{filter-flat_map}

-- the laws on deliveries that this follows from
pub record KnownOfDeliveries : Type 0 where
  pub order : DistinctEdgesHaveAnOrder
  pub counted : DeliveriesAreCountedByCopies
  pub given : DeliveriesAreOfGivenEdges
  pub copied : DeliveriesAreCopiesOfEdges
  pub names : EdgeNumbersNameEdges
  pub none_first : NoneIsHeardOfAtFirst
  pub modes : UnstableAreReportedAndNotStable

-- a ring whose observer isn't reported isn't gained
not_gained : (e i reported other : Bool) → other ≡ false → e || (i && reported && other) ≡ e
not_gained true i reported other none = refl
not_gained false i reported other none = grind arith

module _ (known : Known) (v : Values) (t : ℕ) (plan : IsPlan v) (inside : t < trial_count v) (only : OnlyCrashes v)
    (cell : IsCell v (cell_at v t)) (one : (cell_at v t).f ≡ 1) (laws : KnownOfDeliveries) (s : ℕ)
    (target : is_target (roles_at v t) s ≡ true) where
  abbrev a : Assignment
  a = roles_at v t

  abbrev r : Layout
  r = rings_of v

  abbrev k : ℕ
  k = (cell_at v t).k

  abbrev rule : Rule
  rule = rule_at v t

  process : s < v.nodes
  process = omega (arith, target_below a s target, roles_length v t)

  alone : (q : ℕ) → is_target a q ≡ true → q ≡ s
  alone q is = only_one known v t plan inside only cell one q s is target

  -- the alerts are those about it, on all rings
  alerts_are : alerts_at v t ≡ edges_of k s
  alerts_are =
      let p : Edge → Bool = λ e. is_alerted r a e in
      filter-flat_map p (λ q. edges_of k q) (range_with_len 0 v.nodes)
      ∙ one_part (λ q. filter p (edges_of k q)) 0 v.nodes s (omega arith) (omega (arith, process))
      (λ q _ differ. filter-none p (edges_of k q) (All-map (λ e. p e ≡ false)
      (λ ring. record { ring = ring; subject = q }) (range_with_len 0 k)
      (λ i x _. quiet q (get_or (range_with_len 0 k) i x) differ)))
      ∙ filter-all p (edges_of k s) (All-map (λ e. p e ≡ true) (λ ring. record { ring = ring; subject = s })
      (range_with_len 0 k) (All-range_with_len (λ ring. p (record { ring = ring; subject = s }) ≡ true) 0 k
      (λ ring _ below. raised ring (omega (arith, below)))))
    where
      quiet : (q ring : ℕ) → q ≢ s → is_alerted r a (record { ring = ring; subject = q }) ≡ false
      quiet q ring differ = false_from_ne_true _ (λ is. differ (alone q
          (alerted_is_target a (roles known v t plan inside only cell one) (observer_of r ring q) q is)))

      raised : (ring : ℕ) → ring < k → is_alerted r a (record { ring = ring; subject = s }) ≡ true
      raised ring below = target_is_alerted a (observer_of r ring s) s target
          (observer_is_up known v t plan inside only cell one ring s below target)

  module _ (j : ℕ) where
    abbrev E : ℕ → EdgeSet
    E n = early (source_of v.seed t) j k (alerts_at v t) v.copies n

    abbrev count : ℕ
    count = length (all_deliveries (alerts_at v t) v.copies)

    -- nobody else is reported
    unreported : (n q : ℕ) → q ≢ s → is_reported rule (E n) q ≡ false
    unfolding is_reported
    unreported n q differ =
        let none = none_counted (λ ring. E n ring q) (range_with_len 0 k) (λ ring. false_from_ne_true _ (λ is.
        differ (alone q (alerted_is_target a (roles known v t plan inside only cell one) (observer_of r ring q) q
        (listed_is_raised r a k ring q
        (heard_is_given laws.given (source_of v.seed t) j k (alerts_at v t) v.copies n ring q is)))))) in
        lt-leb rule.l (reports_of rule (E n) q) (omega (arith, none, cell.low))

    -- so it gains no ring
    full_is : (n : ℕ) → full_count r rule (E n) s ≡ reports_of rule (E n) s
    unfolding is_full
    full_is n =
        count_by_agree (λ ring. is_full r rule (E n) ring s) (λ ring. E n ring s) 0 k (record {
          same = λ ring _ below. not_gained (E n ring s) rule.implicit (is_reported rule (E n) s)
              (is_reported rule (E n) (observer_of r ring s))
              (unreported n (observer_of r ring s)
              (never_itself v plan ring s (omega (arith, below, cell.most_rings)) process));
        })

    stable_is : (n : ℕ) → IsTrue (is_stable r rule (E n) s) → rule.h ≤ reports_of rule (E n) s
    unfolding is_stable
    stable_is n stable = omega (arith, full_is n, leb-true rule.h (full_count r rule (E n) s) stable)

    stable_from : (n : ℕ) → rule.h ≤ reports_of rule (E n) s → IsTrue (is_stable r rule (E n) s)
    unfolding is_stable
    stable_from n many = le-leb rule.h (full_count r rule (E n) s) (omega (arith, full_is n, many))

    -- with H reports of it all is settled
    settled_from : (n : ℕ) → rule.h ≤ reports_of rule (E n) s → IsSettled r rule (E n)
    settled_from n many = record {
      some_stable = (s, process, stable_from n many);
      none_unstable = λ q _ unstable.
          let parts = and_parts (is_reported rule (E n) q) (not (is_stable r rule (E n) q))
          (sym (laws.modes r rule (E n) q) ∙ unstable) in
          elim (cases_Bool (q == s)) [
            | inl same ↦ both_ways _ (ap not (subst (λ p. is_stable r rule (E n) p ≡ true) (sym (eqb-true q s same))
                (stable_from n many))) parts.1
            | inr differ ↦ both_ways _ (unreported n q (λ e. both_ways _ differ (eq-eqb q s e))) parts.0
          ];
    }

    few : (n : ℕ) → n ≤ count → n ≤ v.copies * reports_of rule (E n) s
    few n = subst (λ es. n ≤ length (all_deliveries es v.copies)
        → n ≤ v.copies * ring_count k (early (source_of v.seed t) j k es v.copies n) s) (sym alerts_are)
        (few_deliveries laws.order laws.counted laws.given laws.copied (source_of v.seed t) j k s v.copies n)

    -- before it there were too few reports
    high_at : (m : ℕ) → m ≤ count → ((n : ℕ) → 1 ≤ n → n < m → IsSettled r rule (E n) → ⊥)
        → m ≤ v.copies * (rule.h - 1) + 1
    high_at zero within least = omega arith
    high_at (suc n) within least = elim (cases_lt 0 n) [
      | inl some ↦ (
          let short : reports_of rule (E n) s ≤ rule.h - 1 = elim (cases_lt (reports_of rule (E n) s) rule.h) [
            | inl less ↦ omega (arith, less)
            | inr enough ↦ absurd (least n (omega (arith, some)) (omega arith) (settled_from n enough))
          ] in
          omega (
            arith,
            few n (omega (arith, within)),
            mul-le v.copies (reports_of rule (E n) s) v.copies (rule.h - 1) (omega arith) short,
          ))
      | inr first ↦ omega (arith, first)
    ]

    pub by_high : IfSome (proposed_at v t j)
        (λ p. (rule.h ≤ p.at) × (p.at ≤ v.copies * (rule.h - 1) + 1))
    by_high = elim (proposed_at v t j) as (λ o. MatchOption o
        ((n : ℕ) → 1 ≤ n → n ≤ count → IsSettled r rule (E n) → ⊥) (IsOfLeastPlace r rule E count)
        → IfSome o (λ p. (q : ℕ) → Contains p.members q → (q < v.nodes) × IsTrue (ends_stable v t q))
        → IfSome o (λ p. (rule.h ≤ p.at) × (p.at ≤ v.copies * (rule.h - 1) + 1))) [
          | None ↦ λ none only. tt
          | Some p ↦ λ is stable.
              let first = is.settled.some_stable in
              let end = stable first.0 ((is.members first.0).1 (first.1, first.2)) in
              let same = alone first.0
              (sym (stable_is_target known v t plan inside only cell one first.0 end.0) ∙ end.1) in
              let many = stable_is p.at (subst (λ q. IsTrue (is_stable r rule (E p.at) q)) same first.2) in (
                omega (
                  arith,
                  many,
                  few_rings laws.names laws.none_first (source_of v.seed t) j k (alerts_at v t) v.copies s p.at,
                ),
                high_at p.at is.to_last is.least,
              )
        ] (known.proposes r rule E count) (known.members v t j)

-- ---- the places of all receivers

-- who is silent counts with the least place
places_low : (a : Assignment) (least : ℕ) (os : List (Option Proposal)) → All (λ o. IfSome o (λ p. least ≤ p.at)) os
    → length os * least ≤ sum_by place_of os + count_by (λ o. (judged a o).silent) os * least
places_low a least [] all = omega (arith, zero-mul least)
places_low a least (o ∷ os) all = omega (
  arith,
  one_low o (All-head (λ x. IfSome x (λ p. least ≤ p.at)) o os all),
  places_low a least os (All-tail (λ x. IfSome x (λ p. least ≤ p.at)) o os all),
  sum_by-cons place_of o os,
  suc-mul (length os) least,
  ap (λ n. n * least) (sum_by-cons (λ x. bit (judged a x).silent) o os),
  add-mul (bit (judged a o).silent) (count_by (λ x. (judged a x).silent) os) least,
)
  where
    one_low : (x : Option Proposal) → IfSome x (λ p. least ≤ p.at)
        → least ≤ place_of x + bit (judged a x).silent * least
    one_low None is = omega arith
    one_low (Some p) is = omega (arith, is)

-- a place between two numbers
abbrev Between : ℕ → ℕ → Option Proposal → Type 0
Between least most o = IfSome o (λ p. (least ≤ p.at) × (p.at ≤ most))

not_before : (least most : ℕ) (o : Option Proposal) → Between least most o → IfSome o (λ p. least ≤ p.at)
not_before least most None is = tt
not_before least most (Some p) is = is.0

not_after : (least most : ℕ) (o : Option Proposal) → Between least most o → place_of o ≤ most
not_after least most None is = omega arith
not_after least most (Some p) is = is.1

module _ (rest : ReceiversAreTheRest) (found : OneCrashIsFound) (by_h : OneCrashIsFoundByH) (v : Values)
    (plan : IsPlan v) (only : OnlyCrashes v) (two : version_of v.failing ≡ Two) where
  pub settled_by_h : (t : ℕ) → HasOneTarget v t → IsSettledByH (cell_at v t).h v.copies (outcome v t)
  unfolding outcome
  settled_by_h t has =
      let a : Assignment = roles_at v t in
      let h : ℕ = (cell_at v t).h in
      let most : ℕ = v.copies * (h - 1) + 1 in
      let os : List (Option Proposal) = proposals rest v t in
      let long = length-map (receivers_of a) (λ j. proposed_at v t j) ∙ many rest v t in
      let lows = All-map (λ o. IfSome o (λ p. h ≤ p.at)) (λ j. proposed_at v t j) (receivers_of a)
      (λ i x _. not_before h most (proposed_at v t (get_or (receivers_of a) i x))
      (by_h v t (get_or (receivers_of a) i x) plan only has)) in
      let highs = All-map (λ o. place_of o ≤ most) (λ j. proposed_at v t j) (receivers_of a)
      (λ i x _. not_after h most (proposed_at v t (get_or (receivers_of a) i x))
      (by_h v t (get_or (receivers_of a) i x) plan only has)) in
      let silent = (found v t plan only has).silent in
      rw two (record {
        low = omega (
          arith,
          places_low a h os lows,
          ap (λ n. n * h) long,
          ap (λ n. n * h) silent,
          zero-mul h,
        );
        high = omega (arith, sum_by-le place_of most os highs, ap (λ n. n * most) long);
      })

  pub sums_by_h : (h : ℕ) (ts : List ℕ) → All (λ t. HasOneTarget v t × ((cell_at v t).h ≡ h)) ts
      → IsSettledByH h v.copies (sum_of v ts)
  sums_by_h h [] all = record {
    low = omega (arith, zero-mul h);
    high = omega (arith, zero-mul (v.copies * (h - 1) + 1));
  }
  sums_by_h h (t ∷ ts) all =
      let is = All-head (λ u. HasOneTarget v u × ((cell_at v u).h ≡ h)) t ts all in
      let here = subst (λ g. IsSettledByH g v.copies (outcome v t)) is.1 (settled_by_h t is.0) in
      let others = sums_by_h h ts (All-tail (λ u. HasOneTarget v u × ((cell_at v u).h ≡ h)) t ts all) in
      let most : ℕ = v.copies * (h - 1) + 1 in
      let receivers = sum_by-cons (λ u. (outcome v u).receivers) t ts in
      let settled = sum_by-cons (λ u. (outcome v u).settled) t ts in
      record {
        low = omega (
          arith,
          here.low,
          others.low,
          settled,
          ap (λ n. n * h) receivers,
          add-mul (outcome v t).receivers (sum_of v ts).receivers h,
        );
        high = omega (
          arith,
          here.high,
          others.high,
          settled,
          ap (λ n. n * most) receivers,
          add-mul (outcome v t).receivers (sum_of v ts).receivers most,
        );
      }
