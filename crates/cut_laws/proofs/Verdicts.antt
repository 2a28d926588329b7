-- Proposals by their members: votes, verdicts, and what the verdicts on all receivers of a trial add up to.
use Rattle.std.proofs.Common.{◌≡◌, ◌≢◌, ℕ, ◌+◌, ◌-◌, ◌<◌, ◌≤◌, Bool, true, false, not, List, [], ◌∷◌, Option, Some}
use Rattle.std.proofs.Common.{None, length, filter, map, nat_le, inl, inr, refl, sym, ap, ◌∙◌}
use Rattle.std.proofs.Common.{arith, subst}
use Rattle.cut_laws.proofs.Words.{Assignment, Contains, EdgeSet, IfSome, IsAllConflicts, Layout, Proposal}
use Rattle.cut_laws.proofs.Words.{ReceiversAreTheRest, Rule, Values, alerts_at, all_deliveries, cast_of, cell_at}
use Rattle.cut_laws.proofs.Words.{count_by, early, has_other, has_process, is_missed, is_stable}
use Rattle.cut_laws.proofs.Words.{is_target, judged, lacks_target, one_if, outcome, processes_of, proposal_of}
use Rattle.cut_laws.proofs.Words.{proposed_at, quorum_of, range_with_len, receivers_of, rings_of, roles_at, rule_at}
use Rattle.cut_laws.proofs.Words.{same_members, source_of, stable_members, targets_of, votes_of, ◌==◌}
use Rattle.std.proofs.lemmas.Bool.{and_from, and_parts, both_ways, cases_Bool, eq-eqb}
use Rattle.std.proofs.lemmas.Bool.{false_from_ne_true, lt-leb}
use Rattle.std.proofs.lemmas.Cmp.{nat_list_eq_equiv}
use Rattle.std.proofs.lemmas.List.{get_or_past}
use Rattle.std.proofs.lemmas.List.Elements.{filter_passes}
use Rattle.std.proofs.lemmas.List.Folds.{Any-from_list_any, list_any_at, list_any_none}
use Rattle.std.proofs.lemmas.List.FromFn.{length-map-range_with_len}
use Rattle.std.proofs.lemmas.List.Sums.{sum_by-cons}
use Rattle.cut_lists.proofs.Maps.{count_by-map}
use Rattle.cut_lists.proofs.Ranges.{filter_agree_on, list_any_none_passing, list_any_passing, Contains_filter}
use Rattle.cut_lists.proofs.Ranges.{Contains-filter_of}
use Rattle.cut_laws.proofs.Counting.{bit, none_counted, two_split}
use Rattle.cut_outcome.proofs.FastRound.{same_is}

-- ---- votes

-- whether a receiver proposed these members
abbrev pub votes_for : List ℕ → Option Proposal → Bool
votes_for m None = false
votes_for m (Some p) = same_members p.members m

-- the votes for some members are the receivers that proposed them
pub votes_are : (m : List ℕ) (ps : List (Option Proposal)) → votes_of (cast_of ps) m ≡ count_by (votes_for m) ps
votes_are m [] = refl
votes_are m (None ∷ ps) = omega (arith, votes_are m ps, sum_by-cons (λ o. bit (votes_for m o)) None ps)
votes_are m ((Some p) ∷ ps) =
    search (arith, sum_by-cons, votes_are m ps)

pub is_same : (xs : List ℕ) → same_members xs xs ≡ true
is_same xs = nat_list_eq_equiv.refl xs

-- ---- members

pub has_from : (xs : List ℕ) (s : ℕ) → Contains xs s → has_process xs s ≡ true
has_from xs s at = list_any_at (λ m. m == s) xs at.0 s at.1 (ap (λ m. m == s) at.2 ∙ eq-eqb s s refl)

pub has_is : (xs : List ℕ) (s : ℕ) → has_process xs s ≡ true → Contains xs s
has_is xs s has =
    grind (arith, Any-from_list_any)

-- a receiver proposes the stable processes of some place, ascending
pub proposed_is : (r : Layout) (rule : Rule) (E : ℕ → EdgeSet) (count : ℕ) → IfSome (proposal_of r rule E count)
    (λ p. p.members ≡ filter (λ s. is_stable r rule (E p.at) s) (range_with_len 0 r.nodes))
unfolding stable_members
proposed_is r rule E count = grind arith

-- some processes of a trial, ascending
pub record AreOf (a : Assignment) (members : List ℕ) : Type 0 where
  pub test : ℕ → Bool
  pub are : members ≡ filter test (processes_of a)

module _ (a : Assignment) where
  abbrev n : ℕ
  n = length a.roles

  pub targets_lack_none : lacks_target a (targets_of a) ≡ false
  targets_lack_none = list_any_none_passing (λ p. is_missed a (targets_of a) p) 0 n (λ i from below missed.
      (let parts = and_parts (is_target a i) (not (has_process (targets_of a) i)) missed in
      let has = has_from (targets_of a) i (Contains_filter (λ p. is_target a p) 0 n i
      (record { from = from; below = below; passes = parts.0 })) in
      both_ways _ (ap not has) parts.1))

  pub targets_have_no_other : has_other a (targets_of a) ≡ false
  targets_have_no_other = list_any_none (λ m. not (is_target a m)) (targets_of a)
      (λ i x within. ap not (filter_passes (λ p. is_target a p) (processes_of a) i x within))

  -- who lacks no target and has no other process has exactly the targets
  pub exactly_targets : (members : List ℕ) → AreOf a members → lacks_target a members ≡ false
      → has_other a members ≡ false → members ≡ targets_of a
  exactly_targets members of lacks other =
      of.are ∙ filter_agree_on of.test (λ p. is_target a p) 0 n (record { same = same })
    where
      kept : (i : ℕ) → i < n → of.test i ≡ true → is_target a i ≡ false → ⊥
      kept i below is isnt =
          let in_filter = Contains_filter of.test 0 n i
          (record { from = omega arith; below = omega (arith, below); passes = is }) in
          let at = subst (λ xs. Contains xs i) (sym of.are) in_filter in
          both_ways _ other (list_any_at (λ m. not (is_target a m)) members at.0 i at.1
          (ap (λ m. not (is_target a m)) at.2 ∙ ap not isnt))

      missed : (i : ℕ) → i < n → of.test i ≡ false → is_target a i ≡ true → ⊥
      missed i below isnt is =
          let none : has_process members i ≡ false = false_from_ne_true _ (λ has.
          (let at = subst (λ xs. Contains xs i) of.are (has_is members i has) in
          both_ways _ isnt (Contains-filter_of of.test 0 n i at).passes)) in
          both_ways _ lacks (list_any_passing (λ p. is_missed a members p) 0 n i (omega arith)
          (omega (arith, below)) (and_from (is_target a i) (not (has_process members i)) is (ap not none)))

      same : (i : ℕ) → 0 ≤ i → i < 0 + n → of.test i ≡ is_target a i
      same i from below = elim (cases_Bool (of.test i)) [
        | inl is ↦ elim (cases_Bool (is_target a i)) [
          | inl target ↦ is ∙ sym target
          | inr isnt ↦ absurd (kept i (omega (arith, below)) is isnt)
        ]
        | inr fails ↦ elim (cases_Bool (is_target a i)) [
          | inl target ↦ absurd (missed i (omega (arith, below)) fails target)
          | inr isnt ↦ fails ∙ sym isnt
        ]
      ]

-- a target is a process of the trial
pub target_below : (a : Assignment) (s : ℕ) → is_target a s ≡ true → s < length a.roles
target_below a s target = grind (arith, get_or_past)

-- who hasn't a target lacks it
pub lacks_one : (a : Assignment) (members : List ℕ) (s : ℕ) → is_target a s ≡ true → (Contains members s → ⊥)
    → lacks_target a members ≡ true
lacks_one a members s target lacks =
    let none : has_process members s ≡ false = false_from_ne_true _ (λ has. lacks (has_is members s has)) in
    list_any_passing (λ p. is_missed a members p) 0 (length a.roles) s (omega arith)
    (omega (arith, target_below a s target))
    (and_from (is_target a s) (not (has_process members s)) target (ap not none))

-- ---- the verdicts on one receiver

module _ (a : Assignment) where
  abbrev pub is_silent : Option Proposal → Bool
  is_silent o = (judged a o).silent

  abbrev pub is_conflict : Option Proposal → Bool
  is_conflict o = (judged a o).conflict

  abbrev pub is_extra : Option Proposal → Bool
  is_extra o = (judged a o).extra

  abbrev pub is_right : Option Proposal → Bool
  is_right o = votes_for (targets_of a) o

  -- what the verdicts on a receiver say of each other
  pub record AreVerdicts (o : Option Proposal) : Type 0 where
    pub right_or_conflict : bit (is_right o) + bit (is_silent o) + bit (is_conflict o) ≤ 1
    pub right_or_extra : bit (is_right o) + bit (is_silent o) + bit (is_extra o) ≤ 1
    pub one : 1 ≤ bit (is_right o) + bit (is_silent o) + bit (is_conflict o) + bit (is_extra o)
    pub others : (m : List ℕ) → m ≢ targets_of a → bit (votes_for m o) ≤ bit (is_conflict o) + bit (is_extra o)

  pub verdicts : (o : Option Proposal) → IfSome o (λ p. AreOf a p.members) → AreVerdicts o
  verdicts None of = record {
    right_or_conflict = omega arith;
    right_or_extra = omega arith;
    one = omega arith;
    others = λ m differ. omega arith;
  }
  verdicts (Some p) of = elim (cases_Bool (is_right (Some p))) [
    | inl right ↦ (
        let is : p.members ≡ targets_of a = same_is p.members (targets_of a) right in
        let lacks = ap (λ xs. lacks_target a xs) is ∙ targets_lack_none a in
        let other = ap (λ xs. has_other a xs) is ∙ targets_have_no_other a in
        record {
          right_or_conflict = rw (right, lacks) (omega arith);
          right_or_extra = rw (right, other) (omega arith);
          one = rw right (omega arith);
          others = λ m differ. by_others m differ (votes_for m (Some p)) refl is;
        })
    | inr wrong ↦ (
        let some : 1 ≤ bit (is_conflict (Some p)) + bit (is_extra (Some p)) = wrong_is wrong in
        record {
          right_or_conflict = rw wrong (omega (arith, bit_le (lacks_target a p.members)));
          right_or_extra = rw wrong (omega (arith, bit_le (has_other a p.members)));
          one = omega (arith, some);
          others = λ m differ. omega (arith, some, bit_le (votes_for m (Some p)));
        })
  ]
    where
      bit_le : (b : Bool) → bit b ≤ 1
      bit_le true = omega arith
      bit_le false = omega arith

      by_others : (m : List ℕ) → m ≢ targets_of a → (b : Bool) → votes_for m (Some p) ≡ b → p.members ≡ targets_of a
          → bit (votes_for m (Some p)) ≤ bit (is_conflict (Some p)) + bit (is_extra (Some p))
      by_others m differ true votes is = absurd (differ (sym (same_is p.members m votes) ∙ is))
      by_others m differ false votes is = rw votes (omega arith)

      wrong_is : is_right (Some p) ≡ false → 1 ≤ bit (is_conflict (Some p)) + bit (is_extra (Some p))
      wrong_is wrong = elim (cases_Bool (lacks_target a p.members)) [
        | inl lacks ↦ rw lacks (omega arith)
        | inr whole ↦ elim (cases_Bool (has_other a p.members)) [
          | inl other ↦ rw other (omega arith)
          | inr alone ↦ absurd (both_ways _ wrong (ap (λ xs. same_members xs (targets_of a))
              (exactly_targets a p.members of whole alone) ∙ is_same (targets_of a)))
        ]
      ]

-- ---- the verdicts on all receivers of a trial

pub roles_length : (v : Values) (t : ℕ) → length (roles_at v t).roles ≡ v.nodes
roles_length v t = length-map-range_with_len _ 0 v.nodes

pub all_verdicts : (v : Values) (t j : ℕ) → AreVerdicts (roles_at v t) (proposed_at v t j)
all_verdicts v t j =
    let of = proposed_is (rings_of v) (rule_at v t)
    (λ n. early (source_of v.seed t) j (cell_at v t).k (alerts_at v t) v.copies n)
    (length (all_deliveries (alerts_at v t) v.copies)) in
    verdicts (roles_at v t) (proposed_at v t j) (by (proposed_at v t j) of)
  where
    by : (o : Option Proposal)
        → IfSome o (λ p. p.members ≡ filter (λ s. is_stable (rings_of v) (rule_at v t)
        (early (source_of v.seed t) j (cell_at v t).k (alerts_at v t) v.copies p.at) s) (range_with_len 0 v.nodes))
        → IfSome o (λ p. AreOf (roles_at v t) p.members)
    by None is = tt
    by (Some p) is = record {
      test = λ s. is_stable (rings_of v) (rule_at v t)
          (early (source_of v.seed t) j (cell_at v t).k (alerts_at v t) v.copies p.at) s;
      are = rw (roles_length v t) is;
    }

module _ (rest : ReceiversAreTheRest) (v : Values) (t : ℕ) where
  abbrev pub receivers : List ℕ
  receivers = receivers_of (roles_at v t)

  abbrev pub proposals : List (Option Proposal)
  proposals = map (λ j. proposed_at v t j) receivers

  pub many : length receivers ≡ v.nodes - (cell_at v t).f
  many = rest v (cell_at v t).f (source_of v.seed t) (rings_of v)

  -- those that pass a test are counted among the receivers
  pub counted : (test : Option Proposal → Bool)
      → count_by test proposals ≡ count_by (λ j. test (proposed_at v t j)) receivers
  counted test = count_by-map test (λ j. proposed_at v t j) receivers

  pub all_conflicts : 1 ≤ v.nodes
      → ((j : ℕ) → IfSome (proposed_at v t j) (λ p. lacks_target (roles_at v t) p.members ≡ true))
      → IsAllConflicts (outcome v t)
  unfolding outcome
  all_conflicts some each =
      let a : Assignment = roles_at v t in
      let split = two_split (λ j. is_conflict a (proposed_at v t j)) (λ j. is_silent a (proposed_at v t j)) receivers
      (λ j. conflict_or_silent (proposed_at v t j) (each j)) in
      let none = none_counted (λ j. is_right a (proposed_at v t j)) receivers
      (λ j. never_right (proposed_at v t j) (each j)) in
      let votes : votes_of (cast_of proposals) (targets_of a) ≡ 0 =
      votes_are (targets_of a) proposals ∙ counted (is_right a) ∙ none in
      record {
        conflicts = omega (arith, split, counted (is_conflict a), counted (is_silent a), many);
        right = rw votes (no_quorum v.nodes some);
      }
    where
      conflict_or_silent : (o : Option Proposal) → IfSome o (λ p. lacks_target (roles_at v t) p.members ≡ true)
          → bit (is_conflict (roles_at v t) o) + bit (is_silent (roles_at v t) o) ≡ 1
      conflict_or_silent None is = refl
      conflict_or_silent (Some p) is = rw is refl

      never_right : (o : Option Proposal) → IfSome o (λ p. lacks_target (roles_at v t) p.members ≡ true)
          → is_right (roles_at v t) o ≡ false
      never_right None is = refl
      never_right (Some p) is = false_from_ne_true _ (λ votes. both_ways _ (targets_lack_none (roles_at v t))
          (ap (λ xs. lacks_target (roles_at v t) xs) (sym (same_is p.members (targets_of (roles_at v t)) votes)) ∙ is))

      no_quorum : (n : ℕ) → 1 ≤ n → one_if (nat_le (quorum_of n) 0) ≡ 0
      no_quorum n some = rw (lt-leb (quorum_of n) 0 (omega arith)) refl
