-- One crash: each observer of the crashed process is another, and alerts; nobody else is reported.
use Rattle.std.proofs.Common.{◌≡◌, ◌⊎◌, ℕ, ◌-◌, ◌<◌, ◌≤◌, true, false, not, Some, None, List, [], ◌∷◌, one-mul}
use Rattle.std.proofs.Common.{suc-mul, length, nat_le, inl, inr, refl, sym, ap, ◌∙◌, arith, subst}
use Rattle.cut_laws.proofs.Words.{All, Assignment, Contains, IfSome, IsPlan, IsSettled, IsTrue, Layout, OnlyCrashes}
use Rattle.cut_laws.proofs.Words.{ProposesAtLeastPlace, ReceiversAreTheRest, Rule, Values, alerts_at, cast_of}
use Rattle.cut_laws.proofs.Words.{cell_at, count_by, ends_stable, has_crashed, has_process, is_missed, is_target}
use Rattle.cut_laws.proofs.Words.{most_votes, observer_of, one_if, outcome, processes_of, proposed_at, quorum_of}
use Rattle.cut_laws.proofs.Words.{range_with_len, rings_of, role_at, roles_at, rule_at, set_of, source_of, sum_of}
use Rattle.cut_laws.proofs.Words.{targets_of, trial_count}
use Rattle.cut_alerts.specs.declared.role.Role.TheVariants.{Healthy, Crashed}
use Rattle.cut_detector.specs.Laws.{ReportsTargetsAlone, StableAreTargets, TargetsAloneLeaveNoneUnstable}
use Rattle.cut_outcome.specs.Laws.{MostVotesAreMost, TrialsAreByVotes}
use Rattle.cut_laws.specs.Ends.{OnlyWhoEndsStableIsProposed, SettledEndsLeaveNoneSilent}
use Rattle.cut_laws.specs.Ends.{StableTargetsAloneLeaveNoExtra}
use Rattle.cut_laws.specs.OneCrash.{AreOneCrash}
use Rattle.std.proofs.lemmas.Bool.{and_parts, both_ways, cases_lt, false_from_ne_true, le-leb, lt-leb, lt-ltb}
use Rattle.std.proofs.lemmas.Bool.{or_left}
use Rattle.std.proofs.lemmas.List.Elements.{All-head, All-tail}
use Rattle.std.proofs.lemmas.List.FromFn.{length-range_with_len}
use Rattle.std.proofs.lemmas.List.Sums.{sum_by-cons}
use Rattle.cut_lists.proofs.Counts.{list_any-count_by}
use Rattle.cut_lists.proofs.Ranges.{All-range_with_len, PassesAt, list_any_none_passing, passing}
use Rattle.cut_lists.proofs.Ranks.{count_by_all}
use Rattle.cut_laws.proofs.Counting.{none_counted, two_pass}
use Rattle.cut_laws.proofs.Numbers.{number, of_receivers, one_of_four, right_are, right_or_conflict, right_votes}
use Rattle.cut_laws.proofs.Numbers.{targets_many}
use Rattle.cut_laws.proofs.Plans.{IsCell}
use Rattle.cut_laws.proofs.Roles.{alerted_is_target, crashed_or_healthy}
use Rattle.cut_laws.proofs.Roles.{never_itself, target_is_alerted}
use Rattle.cut_laws.proofs.Verdicts.{has_from, is_conflict, proposals, receivers, roles_length, target_below}
use Rattle.cut_laws.proofs.Whole.{some_member}
use Rattle.cut_outcome.proofs.Heard.{raised_is_listed, listed_is_raised}

-- the laws that this follows from
pub record Known : Type 0 where
  pub rest : ReceiversAreTheRest
  pub proposes : ProposesAtLeastPlace
  pub stable : StableAreTargets
  pub unstable : TargetsAloneLeaveNoneUnstable
  pub settled : SettledEndsLeaveNoneSilent
  pub members : OnlyWhoEndsStableIsProposed
  pub others : StableTargetsAloneLeaveNoExtra
  pub most : MostVotesAreMost
  pub votes : TrialsAreByVotes

module _ (known : Known) (v : Values) (t : ℕ) (plan : IsPlan v) (inside : t < trial_count v) (only : OnlyCrashes v)
    (cell : IsCell v (cell_at v t)) (one : (cell_at v t).f ≡ 1) where
  abbrev a : Assignment
  a = roles_at v t

  abbrev r : Layout
  r = rings_of v

  abbrev rule : Rule
  rule = rule_at v t

  pub roles : (p : ℕ) → (role_at a p ≡ Crashed) ⊎ (role_at a p ≡ Healthy)
  roles = crashed_or_healthy v (cell_at v t).f (source_of v.seed t) r (only.crash (cell_at v t).f)
      only.no_liars only.no_links

  targets : count_by (λ p. is_target a p) (processes_of a) ≡ 1
  targets = targets_many known.rest v t (omega (arith, cell.some_left)) ∙ one

  -- the one that has crashed
  pub target : (s : ℕ) × PassesAt (λ p. is_target a p) 0 (length a.roles) s
  target = passing (λ p. is_target a p) 0 (length a.roles)
      (list_any-count_by (λ p. is_target a p) (processes_of a) ∙ lt-ltb 0 _ (omega (arith, targets)))

  pub only_one : (s q : ℕ) → is_target a s ≡ true → is_target a q ≡ true → s ≡ q
  only_one s q is too = elim (cases_lt s q) [
    | inl less ↦ absurd (omega (
      arith,
      targets,
      two_pass (λ p. is_target a p) (length a.roles) s q
          (target_below a s is) (target_below a q too) (λ e. omega (arith, e, less)) is too,
    ))
    | inr most ↦ elim (cases_lt q s) [
      | inl more ↦ absurd (omega (
        arith,
        targets,
        two_pass (λ p. is_target a p) (length a.roles) q s
            (target_below a q too) (target_below a s is) (λ e. omega (arith, e, more)) too is,
      ))
      | inr least ↦ omega (arith, most, least)
    ]
  ]

  -- its observers are others, and have not crashed
  pub observer_is_up : (ring s : ℕ) → ring < (cell_at v t).k → is_target a s ≡ true
      → has_crashed a (observer_of r ring s) ≡ false
  observer_is_up ring s below is = false_from_ne_true _ (λ crashed.
      never_itself v plan ring s (omega (arith, below, cell.most_rings))
      (omega (arith, target_below a s is, roles_length v t))
      (only_one (observer_of r ring s) s (or_left _ _ crashed) is))

  -- so all alerts are about it, and it is reported on all rings
  reports : ReportsTargetsAlone r rule (set_of (alerts_at v t)) (λ p. is_target a p)
  reports = record {
    alone = λ ring s _ _ is. alerted_is_target a roles (observer_of r ring s) s
        (listed_is_raised r a (cell_at v t).k ring s is);
    each = λ s process is.
        let all = All-range_with_len (λ ring. set_of (alerts_at v t) ring s ≡ true) 0 (cell_at v t).k
        (λ ring _ below. raised_is_listed r a (cell_at v t).k ring s (omega (arith, below)) process
        (target_is_alerted a (observer_of r ring s) s is (observer_is_up ring s (omega (arith, below)) is))) in
        let full = count_by_all (λ ring. set_of (alerts_at v t) ring s) (range_with_len 0 (cell_at v t).k) all in
        omega (arith, full, length-range_with_len 0 (cell_at v t).k, cell.rings);
  }

  pub stable_is_target : (s : ℕ) → s < v.nodes → ends_stable v t s ≡ is_target a s
  stable_is_target s process =
      known.stable r rule (set_of (alerts_at v t)) (λ p. is_target a p) cell.low cell.gap reports s process

  target_process : target.0 < v.nodes
  target_process = omega (arith, target.1.below, roles_length v t)

  settled : IsSettled r rule (set_of (alerts_at v t))
  settled = record {
    some_stable = (target.0, target_process, stable_is_target target.0 target_process ∙ target.1.passes);
    none_unstable = known.unstable r rule (set_of (alerts_at v t)) (λ p. is_target a p) cell.low cell.gap reports;
  }

  silent : (outcome v t).silent ≡ 0
  silent = known.settled v t plan inside settled

  extra : (outcome v t).extra ≡ 0
  extra = known.others v t (λ s process is. sym (stable_is_target s process) ∙ is)

  -- who proposes some process proposes it
  has_all : (j : ℕ) → is_conflict a (proposed_at v t j) ≡ false
  has_all j = elim (proposed_at v t j) as (λ o.
      IfSome o (λ p. (s : ℕ) → Contains p.members s → (s < v.nodes) × IsTrue (ends_stable v t s))
      → IfSome o (λ p. (s : ℕ) × Contains p.members s) → is_conflict a o ≡ false) [
        | None ↦ λ stable some. refl
        | Some p ↦ λ stable some.
            let found = stable some.0 some.1 in
            let is = sym (stable_is_target some.0 found.0) ∙ found.1 in
            list_any_none_passing (λ q. is_missed a p.members q) 0 (length a.roles) (λ i _ _ missed.
            (let parts = and_parts (is_target a i) (not (has_process p.members i)) missed in
            let has = has_from p.members i (subst (λ q. Contains p.members q) (only_one some.0 i is parts.0) some.1) in
            both_ways _ (ap not has) parts.1))
      ] (known.members v t j) (some_member known.proposes v t j)

  no_conflicts : number known.rest v t (is_conflict a) ≡ 0
  no_conflicts = of_receivers known.rest v t (is_conflict a) ∙ none_counted _ (receivers known.rest v t) has_all

  -- all are right, and have a quorum where five are processes
  pub one_crash : AreOneCrash v.nodes 1 (outcome v t)
  unfolding outcome
  one_crash =
      let right : right_votes known.rest v t ≡ v.nodes - 1 = omega (
        arith,
        one,
        silent,
        extra,
        no_conflicts,
        right_are known.rest v t,
        one_of_four known.rest v t,
        right_or_conflict known.rest v t,
      ) in
      let votes : most_votes (cast_of (proposals known.rest v t)) ≡ v.nodes - 1 = omega (
        arith,
        right,
        one,
        (known.votes v t).votes,
        known.most (cast_of (proposals known.rest v t)) (targets_of a),
      ) in
      record {
        receivers = omega (arith, one);
        conflicts = no_conflicts;
        silent = silent;
        extra = extra;
        votes = omega (arith, votes);
        decided = ap (λ n. one_if (nat_le (quorum_of v.nodes) n)) votes ∙ quorums v.nodes plan.some_nodes
            ∙ sym (one-mul (one_if (nat_le 5 v.nodes)));
        right = ap (λ n. one_if (nat_le (quorum_of v.nodes) n)) right ∙ quorums v.nodes plan.some_nodes
            ∙ sym (one-mul (one_if (nat_le 5 v.nodes)));
      }
    where
      quorums : (n : ℕ) → 2 ≤ n → one_if (nat_le (quorum_of n) (n - 1)) ≡ one_if (nat_le 5 n)
      quorums n two = elim (cases_lt n 5) [
        | inl few ↦ rw (lt-leb (quorum_of n) (n - 1) (omega (arith, two, few)), lt-leb 5 n few) refl
        | inr enough ↦ rw (le-leb (quorum_of n) (n - 1) (omega (arith, enough)), le-leb 5 n enough) refl
      ]

-- ---- sums

pub sums_one_crash : (v : Values) (ts : List ℕ) → All (λ t. AreOneCrash v.nodes 1 (outcome v t)) ts
    → AreOneCrash v.nodes (length ts) (sum_of v ts)
sums_one_crash v [] all = grind arith
sums_one_crash v (t ∷ ts) all =
    let here = All-head (λ u. AreOneCrash v.nodes 1 (outcome v u)) t ts all in
    let others = sums_one_crash v ts (All-tail (λ u. AreOneCrash v.nodes 1 (outcome v u)) t ts all) in
    let receivers = suc-mul (length ts) (v.nodes - 1) in
    let decided = suc-mul (length ts) (one_if (nat_le 5 v.nodes)) in
    record {
      receivers = omega (
        arith,
        here.receivers,
        others.receivers,
        receivers,
        sum_by-cons (λ u. (outcome v u).receivers) t ts,
      );
      conflicts = omega (arith, here.conflicts, others.conflicts, sum_by-cons (λ u. (outcome v u).conflicts) t ts);
      silent = omega (arith, here.silent, others.silent, sum_by-cons (λ u. (outcome v u).silent) t ts);
      extra = omega (arith, here.extra, others.extra, sum_by-cons (λ u. (outcome v u).extra) t ts);
      votes = omega (arith, here.votes, others.votes, receivers, sum_by-cons (λ u. (outcome v u).votes) t ts);
      decided = omega (
        arith,
        here.decided,
        others.decided,
        decided,
        sum_by-cons (λ u. (outcome v u).decided) t ts,
      );
      right = omega (arith, here.right, others.right, decided, sum_by-cons (λ u. (outcome v u).right) t ts);
    }
