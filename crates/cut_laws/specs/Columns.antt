-- Laws between the numbers of a line of the table: of one trial, and of the sums over trials.
use Rattle.std.specs.Prelude.{◌≡◌, ℕ, ◌+◌, ◌-◌, ◌*◌, ◌/◌, ◌<◌, ◌≤◌, nat_le, List, length, All}
use Rattle.cut_plan.specs.Values.{Values}
use Rattle.cut_outcome.specs.declared.totals.Totals.{Totals}
use Rattle.cut_outcome.specs.FastRound.{quorum_of}
use Rattle.cut_outcome.specs.Outcome.{cell_at, one_if, outcome}
use Rattle.cut_outcome.specs.Sum.{sum_of}

-- ---- who can decide

-- if more processes fail or are silent than a quorum can lack, no trial is decided
abbrev pub TooFewVotersDecideNothing : Type 0
TooFewVotersDecideNothing =
    (v : Values) (t : ℕ) → 1 ≤ v.nodes → (v.nodes - 1) / 4 < (cell_at v t).f + (outcome v t).silent →
    (outcome v t).decided ≡ 0

-- so if more than these fail, none of any trials is decided, or right
pub record NoneIsDecided (x : Totals) : Type 0 where
  pub decided : x.decided ≡ 0
  pub right : x.right ≡ 0

abbrev pub TooManyFailedLeaveNoneDecided : Type 0
TooManyFailedLeaveNoneDecided =
    (v : Values) (ts : List ℕ) → 1 ≤ v.nodes → All (λ t. (v.nodes - 1) / 4 < (cell_at v t).f) ts →
    NoneIsDecided (sum_of v ts)

-- ---- what the verdicts say of decisions

-- in one trial: whether it is right, by the receivers that are silent, a conflict, or propose another process
pub record IsRightByVerdicts (v : Values) (x : Totals) : Type 0 where
  -- those that are right are neither silent nor a conflict
  pub without_conflicts : x.right ≡ 1 → quorum_of v.nodes + x.silent + x.conflicts ≤ x.receivers
  -- nor do they propose another process
  pub without_extra : x.right ≡ 1 → quorum_of v.nodes + x.silent + x.extra ≤ x.receivers
  -- all others are right
  pub enough : quorum_of v.nodes + x.silent + x.conflicts + x.extra ≤ x.receivers → x.right ≡ 1

abbrev pub TrialsAreRightByVerdicts : Type 0
TrialsAreRightByVerdicts = (v : Values) (t : ℕ) → IsRightByVerdicts v (outcome v t)

-- so where none proposes another process, a trial is right exactly if a quorum is neither silent nor a conflict
abbrev pub RightWithoutExtra : Type 0
RightWithoutExtra =
    (v : Values) (t : ℕ) → (outcome v t).extra ≡ 0 →
    (outcome v t).right
    ≡ one_if (nat_le (quorum_of v.nodes + (outcome v t).silent + (outcome v t).conflicts) (outcome v t).receivers)

-- each trial that is decided and not right has a quorum of receivers that are a conflict or propose another process
pub record IsWrongByVerdicts (v : Values) (x : Totals) : Type 0 where
  pub decided : quorum_of v.nodes * x.decided ≤ quorum_of v.nodes * x.right + x.conflicts + x.extra

abbrev pub TrialsAreWrongByVerdicts : Type 0
TrialsAreWrongByVerdicts = (v : Values) (t : ℕ) → IsWrongByVerdicts v (outcome v t)

-- and so for the sums over any trials
abbrev pub SumsAreWrongByVerdicts : Type 0
SumsAreWrongByVerdicts = (v : Values) (ts : List ℕ) → IsWrongByVerdicts v (sum_of v ts)

-- ---- how many are right at least

-- receivers that are neither silent nor a conflict, and propose no other process, propose the same
pub record HasVotesOfTheRight (x : Totals) : Type 0 where
  pub votes : x.receivers ≤ x.votes + x.silent + x.conflicts + x.extra

abbrev pub TrialsHaveVotesOfTheRight : Type 0
TrialsHaveVotesOfTheRight = (v : Values) (t : ℕ) → HasVotesOfTheRight (outcome v t)

-- and so for the sums over any trials
abbrev pub SumsHaveVotesOfTheRight : Type 0
SumsHaveVotesOfTheRight = (v : Values) (ts : List ℕ) → HasVotesOfTheRight (sum_of v ts)

-- of n processes without f: by how many the others exceed a quorum, and one more
abbrev pub to_spare : ℕ → ℕ → ℕ
to_spare n f = n - f + 1 - quorum_of n

-- each of these trials that isn't right has that many receivers at least that are silent, a conflict, or propose
-- another process
pub record IsRightUnlessLost (n f trials : ℕ) (x : Totals) : Type 0 where
  pub lost : to_spare n f * trials ≤ to_spare n f * x.right + x.silent + x.conflicts + x.extra

abbrev pub SumsAreRightUnlessLost : Type 0
SumsAreRightUnlessLost =
    (v : Values) (f : ℕ) (ts : List ℕ) → All (λ t. (cell_at v t).f ≡ f) ts →
    IsRightUnlessLost v.nodes f (length ts) (sum_of v ts)

-- ---- if nothing fails

-- no receiver is a conflict, and each that proposes names a process that has not failed
pub record HasNoTargets (x : Totals) : Type 0 where
  pub conflicts : x.conflicts ≡ 0
  pub right : x.right ≡ 0
  pub extra : x.extra + x.silent ≡ x.receivers

abbrev pub NoTargetsLeaveNoConflicts : Type 0
NoTargetsLeaveNoConflicts =
    (v : Values) (t : ℕ) → 1 ≤ v.nodes → (cell_at v t).f ≡ 0 → HasNoTargets (outcome v t)

-- and so in the sums over any such trials
abbrev pub NoTargetsLeaveNoConflictsInSums : Type 0
NoTargetsLeaveNoConflictsInSums =
    (v : Values) (ts : List ℕ) → 1 ≤ v.nodes → All (λ t. (cell_at v t).f ≡ 0) ts → HasNoTargets (sum_of v ts)
