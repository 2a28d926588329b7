-- What the numbers of a trial say of each other, and of sums over trials.
use Rattle.std.proofs.Common.{◌≡◌, ◌≢◌, ℕ, ◌+◌, ◌-◌, ◌*◌, ◌/◌, ◌<◌, ◌≤◌, Bool, false, not, List, [], ◌∷◌, Option}
use Rattle.std.proofs.Common.{Some, None, length, map, get_or, max, nat_le, inl, inr, refl, sym, ap, ◌∙◌, arith}
use Rattle.std.proofs.Common.{mul-zero, mul-one, mul-add, suc}
use Rattle.cut_laws.proofs.Words.{All, Assignment, Contains, IfSome, IsAllConflicts, Proposal, ProposesAtLeastPlace}
use Rattle.cut_laws.proofs.Words.{ReceiversAreTheRest, Totals, Values, cast_of, cell_at, count_by, has_process}
use Rattle.cut_laws.proofs.Words.{is_missed, is_target, most_votes, one_if, outcome, processes_of, proposed_at}
use Rattle.cut_laws.proofs.Words.{quorum_of, roles_at, same_members, sum_of, targets_of, votes_of}
use Rattle.cut_outcome.specs.Laws.{AreByVotes, DecidedOnce, MostVotesAreMost, RightIsDecided, TrialsAreByVotes}
use Rattle.cut_laws.specs.Columns.{HasNoTargets, HasVotesOfTheRight, IsRightByVerdicts, IsRightUnlessLost}
use Rattle.cut_laws.specs.Columns.{IsWrongByVerdicts, NoneIsDecided, to_spare}
use Rattle.std.proofs.lemmas.Bool.{and_parts, both_ways, cases_Bool, cases_lt, false_from_ne_true, le-leb, lt-leb}
use Rattle.std.proofs.lemmas.Bool.{ltb-true}
use Rattle.std.proofs.lemmas.List.Elements.{All-head, All-map, All-tail}
use Rattle.std.proofs.lemmas.List.Folds.{list_any_at}
use Rattle.std.proofs.lemmas.List.FromFn.{length-range_with_len}
use Rattle.std.proofs.lemmas.List.Sums.{length-filter, sum_by-cons}
use Rattle.cut_lists.proofs.Counts.{list_any-count_by}
use Rattle.cut_lists.proofs.Greatest.{fold_max-le}
use Rattle.cut_lists.proofs.Parts.{count_rest}
use Rattle.cut_lists.proofs.Ranges.{list_any_none_passing, list_any_passing}
use Rattle.cut_laws.proofs.Counting.{bit, four_cover, into_two, none_counted, three_apart, two_split}
use Rattle.cut_laws.proofs.Verdicts.{all_verdicts, counted, is_conflict, is_extra, is_right, is_same, is_silent, many}
use Rattle.cut_laws.proofs.Verdicts.{proposals, receivers, roles_length, target_below, votes_are, votes_for}
use Rattle.cut_laws.proofs.Whole.{some_member}
use Rattle.cut_outcome.proofs.FastRound.{same_is}

-- ---- quorums

-- a quorum that is reached, or isn't
reached : (q n : ℕ) → q ≤ n → one_if (nat_le q n) ≡ 1
reached q n enough = ap one_if (le-leb q n enough)

missed : (q n : ℕ) → n < q → one_if (nat_le q n) ≡ 0
missed q n few = ap one_if (lt-leb q n few)

is_reached : (q n : ℕ) → one_if (nat_le q n) ≡ 1 → q ≤ n
is_reached q n is = grind arith

module _ (rest : ReceiversAreTheRest) (v : Values) (t : ℕ) where
  abbrev a : Assignment
  a = roles_at v t

  -- how many receivers pass a test
  abbrev pub number : (Option Proposal → Bool) → ℕ
  number test = count_by test (proposals rest v t)

  pub of_receivers : (test : Option Proposal → Bool)
      → number test ≡ count_by (λ j. test (proposed_at v t j)) (receivers rest v t)
  of_receivers test = counted rest v t test

  -- who is right is neither silent nor a conflict
  pub right_or_conflict : number (is_right a) + number (is_silent a) + number (is_conflict a)
      ≤ v.nodes - (cell_at v t).f
  right_or_conflict = omega (
    arith,
    many rest v t,
    of_receivers (is_right a),
    of_receivers (is_silent a),
    of_receivers (is_conflict a),
    three_apart (λ j. is_right a (proposed_at v t j)) (λ j. is_silent a (proposed_at v t j))
        (λ j. is_conflict a (proposed_at v t j)) (receivers rest v t)
        (λ j. (all_verdicts v t j).right_or_conflict),
  )

  -- nor does it propose another process
  right_or_extra : number (is_right a) + number (is_silent a) + number (is_extra a) ≤ v.nodes - (cell_at v t).f
  right_or_extra = omega (
    arith,
    many rest v t,
    of_receivers (is_right a),
    of_receivers (is_silent a),
    of_receivers (is_extra a),
    three_apart (λ j. is_right a (proposed_at v t j)) (λ j. is_silent a (proposed_at v t j))
        (λ j. is_extra a (proposed_at v t j)) (receivers rest v t)
        (λ j. (all_verdicts v t j).right_or_extra),
  )

  -- all others are right
  pub one_of_four : v.nodes - (cell_at v t).f
      ≤ number (is_right a) + number (is_silent a) + number (is_conflict a) + number (is_extra a)
  one_of_four = omega (
    arith,
    many rest v t,
    of_receivers (is_right a),
    of_receivers (is_silent a),
    of_receivers (is_conflict a),
    of_receivers (is_extra a),
    four_cover (λ j. is_right a (proposed_at v t j)) (λ j. is_silent a (proposed_at v t j))
        (λ j. is_conflict a (proposed_at v t j)) (λ j. is_extra a (proposed_at v t j)) (receivers rest v t)
        (λ j. (all_verdicts v t j).one),
  )

  abbrev pub right_votes : ℕ
  right_votes = votes_of (cast_of (proposals rest v t)) (targets_of a)

  pub right_are : right_votes ≡ number (is_right a)
  right_are = votes_are (targets_of a) (proposals rest v t)

  pub right_by_verdicts : IsRightByVerdicts v (outcome v t)
  unfolding outcome
  right_by_verdicts = record {
    without_conflicts = λ is.
        omega (arith, is_reached (quorum_of v.nodes) right_votes is, right_are, right_or_conflict);
    without_extra = λ is. omega (arith, is_reached (quorum_of v.nodes) right_votes is, right_are, right_or_extra);
    enough = λ many. reached (quorum_of v.nodes) right_votes (omega (arith, many, right_are, one_of_four));
  }

  pub right_without_extra : (outcome v t).extra ≡ 0 → (outcome v t).right
      ≡ one_if (nat_le (quorum_of v.nodes + (outcome v t).silent + (outcome v t).conflicts) (outcome v t).receivers)
  unfolding outcome
  right_without_extra none = elim (cases_lt right_votes (quorum_of v.nodes)) [
    | inl few ↦ missed (quorum_of v.nodes) right_votes few
        ∙ sym (missed (quorum_of v.nodes + number (is_silent a) + number (is_conflict a)) (v.nodes - (cell_at v t).f)
        (omega (arith, few, right_are, one_of_four, none)))
    | inr enough ↦ reached (quorum_of v.nodes) right_votes enough
        ∙ sym (reached (quorum_of v.nodes + number (is_silent a) + number (is_conflict a)) (v.nodes - (cell_at v t).f)
        (omega (arith, enough, right_are, right_or_conflict)))
  ]

  -- other members than the targets have votes only of receivers that are a conflict or propose another process
  other_votes : (m : List ℕ) → m ≢ targets_of a
      → votes_of (cast_of (proposals rest v t)) m ≤ number (is_conflict a) + number (is_extra a)
  other_votes m differ = omega (
    arith,
    votes_are m (proposals rest v t),
    of_receivers (votes_for m),
    of_receivers (is_conflict a),
    of_receivers (is_extra a),
    into_two (λ j. votes_for m (proposed_at v t j)) (λ j. is_conflict a (proposed_at v t j))
        (λ j. is_extra a (proposed_at v t j)) (receivers rest v t)
        (λ j. (all_verdicts v t j).others m differ),
  )

  -- so the most votes are at most these, or those for the targets
  most_are : most_votes (cast_of (proposals rest v t)) ≤ max right_votes (number (is_conflict a) + number (is_extra a))
  most_are =
      let cast : List (List ℕ) = cast_of (proposals rest v t) in
      let most : ℕ = max right_votes (number (is_conflict a) + number (is_extra a)) in
      fold_max-le 0 most (map (λ m. votes_of cast m) cast) (omega arith)
      (All-map (λ n. n ≤ most) (λ m. votes_of cast m) cast (λ i d _. votes (get_or cast i d)))
    where
      votes : (m : List ℕ) → votes_of (cast_of (proposals rest v t)) m
          ≤ max right_votes (number (is_conflict a) + number (is_extra a))
      votes m = elim (cases_Bool (same_members m (targets_of a))) [
        | inl same ↦ omega (
          arith,
          ap (λ xs. votes_of (cast_of (proposals rest v t)) xs) (same_is m (targets_of a) same),
        )
        | inr differ ↦ omega (
          arith,
          other_votes m (λ e. both_ways _ differ
              (ap (λ xs. same_members xs (targets_of a)) e ∙ is_same (targets_of a))),
        )
      ]

  pub wrong_by_verdicts : IsWrongByVerdicts v (outcome v t)
  unfolding outcome
  wrong_by_verdicts = record {
    decided = by (quorum_of v.nodes) (most_votes (cast_of (proposals rest v t))) right_votes
        (number (is_conflict a)) (number (is_extra a)) most_are;
  }
    where
      by : (q most right conflicts extra : ℕ) → most ≤ max right (conflicts + extra)
          → q * one_if (nat_le q most) ≤ q * one_if (nat_le q right) + conflicts + extra
      by q most right conflicts extra le = elim (cases_lt most q) [
        | inl few ↦ rw (missed q most few, mul-zero q) (omega arith)
        | inr enough ↦ elim (cases_lt right q) [
          | inl wrong ↦ rw (reached q most enough, missed q right wrong, mul-zero q, mul-one q)
              (omega (arith, le, enough))
          | inr is ↦ rw (reached q most enough, reached q right is) (omega arith)
        ]
      ]

-- ---- how many are right at least

pub right_votes_are : MostVotesAreMost → ReceiversAreTheRest → (v : Values) (t : ℕ) → HasVotesOfTheRight (outcome v t)
unfolding outcome
right_votes_are most rest v t = record {
  votes = omega (
    arith,
    one_of_four rest v t,
    right_are rest v t,
    most (cast_of (proposals rest v t)) (targets_of (roles_at v t)),
  );
}

pub sums_right_votes : (v : Values) → ((t : ℕ) → HasVotesOfTheRight (outcome v t)) → (ts : List ℕ)
    → HasVotesOfTheRight (sum_of v ts)
sums_right_votes v each [] = record { votes = omega arith }
sums_right_votes v each (t ∷ ts) = record {
  votes = omega (
    arith,
    (each t).votes,
    (sums_right_votes v each ts).votes,
    sum_by-cons (λ u. (outcome v u).receivers) t ts,
    sum_by-cons (λ u. (outcome v u).votes) t ts,
    sum_by-cons (λ u. (outcome v u).silent) t ts,
    sum_by-cons (λ u. (outcome v u).conflicts) t ts,
    sum_by-cons (λ u. (outcome v u).extra) t ts,
  );
}

-- a trial that isn't right has lost more receivers than it had to spare
lost_unless_right : (n f : ℕ) (x : Totals) → x.receivers ≡ n - f
    → (quorum_of n + x.silent + x.conflicts + x.extra ≤ x.receivers → x.right ≡ 1)
    → to_spare n f ≤ to_spare n f * x.right + x.silent + x.conflicts + x.extra
lost_unless_right n f x receivers enough =
    grind arith

trial_lost : ReceiversAreTheRest → (v : Values) (f t : ℕ) → (cell_at v t).f ≡ f
    → to_spare v.nodes f ≤ to_spare v.nodes f * (outcome v t).right + (outcome v t).silent + (outcome v t).conflicts
    + (outcome v t).extra
unfolding outcome
trial_lost rest v f t is =
    lost_unless_right v.nodes f (outcome v t) (ap (λ m. v.nodes - m) is) (right_by_verdicts rest v t).enough

pub sums_lost : ReceiversAreTheRest → (v : Values) (f : ℕ) (ts : List ℕ) → All (λ t. (cell_at v t).f ≡ f) ts
    → IsRightUnlessLost v.nodes f (length ts) (sum_of v ts)
sums_lost rest v f [] all = record { lost = omega (arith, mul-zero (to_spare v.nodes f)) }
sums_lost rest v f (t ∷ ts) all = record {
  lost = omega (
    arith,
    trial_lost rest v f t (All-head (λ u. (cell_at v u).f ≡ f) t ts all),
    (sums_lost rest v f ts (All-tail (λ u. (cell_at v u).f ≡ f) t ts all)).lost,
    mul-add (to_spare v.nodes f) 1 (length ts),
    ap (λ m. to_spare v.nodes f * m) (one_and (length ts)),
    mul-one (to_spare v.nodes f),
    ap (λ m. to_spare v.nodes f * m) (sum_by-cons (λ u. (outcome v u).right) t ts),
    mul-add (to_spare v.nodes f) (outcome v t).right (sum_of v ts).right,
    sum_by-cons (λ u. (outcome v u).silent) t ts,
    sum_by-cons (λ u. (outcome v u).conflicts) t ts,
    sum_by-cons (λ u. (outcome v u).extra) t ts,
  );
}
  where
    one_and : (n : ℕ) → suc n ≡ 1 + n
    one_and n = omega arith

-- ---- who can decide

-- where too few can vote there is no quorum
pub too_few : (v : Values) (x : Totals) (f : ℕ) → AreByVotes v x → x.decided ≤ 1 → x.receivers ≡ v.nodes - f
    → 1 ≤ v.nodes → (v.nodes - 1) / 4 < f + x.silent → x.decided ≡ 0
too_few v x f by once receivers some lost = grind arith

pub trial_too_few : TrialsAreByVotes → DecidedOnce → (v : Values) (t : ℕ) → 1 ≤ v.nodes
    → (v.nodes - 1) / 4 < (cell_at v t).f + (outcome v t).silent → (outcome v t).decided ≡ 0
unfolding outcome
trial_too_few by once v t = too_few v (outcome v t) (cell_at v t).f (by v t) (once v t) refl

-- ---- sums

pub sums_too_few : TrialsAreByVotes → DecidedOnce → RightIsDecided → (v : Values) (ts : List ℕ) → 1 ≤ v.nodes
    → All (λ t. (v.nodes - 1) / 4 < (cell_at v t).f) ts → NoneIsDecided (sum_of v ts)
sums_too_few by once right v [] some lost = record { decided = refl; right = refl }
sums_too_few by once right v (t ∷ ts) some lost =
    let failed = All-head (λ u. (v.nodes - 1) / 4 < (cell_at v u).f) t ts lost in
    let here = trial_too_few by once v t some (omega (arith, failed)) in
    let others = sums_too_few by once right v ts some (All-tail (λ u. (v.nodes - 1) / 4 < (cell_at v u).f) t ts lost) in
    record {
      decided = omega (arith, here, others.decided, sum_by-cons (λ u. (outcome v u).decided) t ts);
      right = omega (arith, here, right v t, others.right, sum_by-cons (λ u. (outcome v u).right) t ts);
    }

pub sums_wrong : (v : Values) → ((t : ℕ) → IsWrongByVerdicts v (outcome v t)) → (ts : List ℕ)
    → IsWrongByVerdicts v (sum_of v ts)
sums_wrong v each [] = record { decided = omega (arith, mul-zero (quorum_of v.nodes)) }
sums_wrong v each (t ∷ ts) = record {
  decided = omega (
    arith,
    (each t).decided,
    (sums_wrong v each ts).decided,
    ap (λ n. quorum_of v.nodes * n) (sum_by-cons (λ u. (outcome v u).decided) t ts),
    ap (λ n. quorum_of v.nodes * n) (sum_by-cons (λ u. (outcome v u).right) t ts),
    sum_by-cons (λ u. (outcome v u).conflicts) t ts,
    sum_by-cons (λ u. (outcome v u).extra) t ts,
    mul-add (quorum_of v.nodes) (outcome v t).decided (sum_of v ts).decided,
    mul-add (quorum_of v.nodes) (outcome v t).right (sum_of v ts).right,
  );
}

pub sums_all_conflicts : (v : Values) (ts : List ℕ) → All (λ t. IsAllConflicts (outcome v t)) ts
    → IsAllConflicts (sum_of v ts)
sums_all_conflicts v [] all = record { conflicts = refl; right = refl }
sums_all_conflicts v (t ∷ ts) all =
    let here = All-head (λ u. IsAllConflicts (outcome v u)) t ts all in
    let others = sums_all_conflicts v ts (All-tail (λ u. IsAllConflicts (outcome v u)) t ts all) in
    record {
      conflicts = omega (
        arith,
        here.conflicts,
        others.conflicts,
        sum_by-cons (λ u. (outcome v u).conflicts) t ts,
        sum_by-cons (λ u. (outcome v u).silent) t ts,
        sum_by-cons (λ u. (outcome v u).receivers) t ts,
      );
      right = omega (arith, here.right, others.right, sum_by-cons (λ u. (outcome v u).right) t ts);
    }

-- ---- targets

-- as many processes are targets as the cell fails
pub targets_many : ReceiversAreTheRest → (v : Values) (t : ℕ) → (cell_at v t).f ≤ v.nodes
    → count_by (λ p. is_target (roles_at v t) p) (processes_of (roles_at v t)) ≡ (cell_at v t).f
targets_many rest v t few =
    let a : Assignment = roles_at v t in
    grind (arith, many rest v t, count_rest, length-filter, length-range_with_len 0 (length a.roles), roles_length v t)

-- where there is none, no receiver is a conflict, and each that proposes names another process
module _ (rest : ReceiversAreTheRest) (proposes : ProposesAtLeastPlace) (v : Values) (t : ℕ)
    (none : (cell_at v t).f ≡ 0) where
  no_target : (s : ℕ) → is_target (roles_at v t) s ≡ false
  no_target s = false_from_ne_true _ (λ target.
      (let a : Assignment = roles_at v t in
      let some = list_any_passing (λ p. is_target a p) 0 (length a.roles) s (omega arith)
      (omega (arith, target_below a s target)) target in
      let count = targets_many rest v t (omega (arith, none)) in
      omega (arith, none, count, ltb-true 0 _ (sym (list_any-count_by (λ p. is_target a p) (processes_of a)) ∙ some))))

  extra_or_silent : (j : ℕ)
      → bit (is_extra (roles_at v t) (proposed_at v t j)) + bit (is_silent (roles_at v t) (proposed_at v t j)) ≡ 1
  extra_or_silent j = elim (proposed_at v t j) as (λ o. IfSome o (λ p. (s : ℕ) × Contains p.members s)
      → bit (is_extra (roles_at v t) o) + bit (is_silent (roles_at v t) o) ≡ 1) [
        | None ↦ λ _. refl
        | Some p ↦ λ some. rw (list_any_at (λ m. not (is_target (roles_at v t) m)) p.members some.1.0 some.0 some.1.1
            (ap (λ m. not (is_target (roles_at v t) m)) some.1.2 ∙ ap not (no_target some.0))) refl
      ] (some_member proposes v t j)

  no_conflict : (o : Option Proposal) → is_conflict (roles_at v t) o ≡ false
  no_conflict None = refl
  no_conflict (Some p) = list_any_none_passing (λ q. is_missed (roles_at v t) p.members q) 0
      (length (roles_at v t).roles) (λ i _ _ missed. both_ways _ (no_target i)
      (and_parts (is_target (roles_at v t) i) (not (has_process p.members i)) missed).0)

  pub no_targets : 1 ≤ v.nodes → HasNoTargets (outcome v t)
  unfolding outcome
  no_targets some =
      let a : Assignment = roles_at v t in
      let extra = two_split (λ j. is_extra a (proposed_at v t j)) (λ j. is_silent a (proposed_at v t j))
      (receivers rest v t) extra_or_silent in
      record {
        conflicts = of_receivers rest v t (is_conflict a)
            ∙ none_counted _ (receivers rest v t) (λ j. no_conflict (proposed_at v t j));
        right = missed (quorum_of v.nodes) (right_votes rest v t)
            (omega (
              arith,
              some,
              right_are rest v t,
              right_or_extra rest v t,
              extra,
              of_receivers rest v t (is_extra a),
              of_receivers rest v t (is_silent a),
              many rest v t,
            ));
        extra = omega (
          arith,
          extra,
          of_receivers rest v t (is_extra a),
          of_receivers rest v t (is_silent a),
          many rest v t,
        );
      }

pub sums_no_targets : (v : Values) (ts : List ℕ) → All (λ t. HasNoTargets (outcome v t)) ts → HasNoTargets (sum_of v ts)
sums_no_targets v [] all = record { conflicts = refl; right = refl; extra = refl }
sums_no_targets v (t ∷ ts) all =
    let here = All-head (λ u. HasNoTargets (outcome v u)) t ts all in
    let others = sums_no_targets v ts (All-tail (λ u. HasNoTargets (outcome v u)) t ts all) in
    record {
      conflicts = omega (arith, here.conflicts, others.conflicts, sum_by-cons (λ u. (outcome v u).conflicts) t ts);
      right = omega (arith, here.right, others.right, sum_by-cons (λ u. (outcome v u).right) t ts);
      extra = omega (
        arith,
        here.extra,
        others.extra,
        sum_by-cons (λ u. (outcome v u).extra) t ts,
        sum_by-cons (λ u. (outcome v u).silent) t ts,
        sum_by-cons (λ u. (outcome v u).receivers) t ts,
      );
    }
