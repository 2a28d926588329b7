-- What the verdicts on receivers come to, one after another.
use Rattle.std.specs.Prelude.{◌≡◌, ◌≤◌, ℕ, ◌+◌, ◌*◌, ◌-◌, ◌^◌, ◌++◌, List, length, replicate, count_by, Option}
use Rattle.cut_alerts.specs.Assignment.{Assignment}
use Rattle.cut_detector.specs.declared.proposal.Proposal.{Proposal}
use Rattle.cut_outcome.specs.FastRound.{votes_of, cast_of, HasCounted}
use Rattle.cut_outcome.specs.Outcome.{settled_of}
use Rattle.cut_outcome.specs.Verdicts.{targets_of, judged}
use Rattle.cut_trial.specs.declared.verdict_counts.VerdictCounts as declared

-- the verdicts on these proposals, and on the silences among them, are counted, and their places are added up
pub record HasVerdicts (a : Assignment) (o : declared.VerdictCounts) (proposals : List (Option Proposal)) : Type 0 where
  pub conflicts : o.conflicts ≡ count_by (λ p. (judged a p).conflict) proposals
  pub silent : o.silent ≡ count_by (λ p. (judged a p).silent) proposals
  pub extra : o.extra ≡ count_by (λ p. (judged a p).extra) proposals
  pub settled : o.settled ≡ settled_of o.version proposals
  pub places : o.settled ≤ (2 ^ 32 - 1) * length proposals

-- the receivers that made these proposals have been judged by the roles, and the votes of those that didn't propose
-- exactly the targets are in the ballot
pub record IsJudging (a : Assignment) (o : declared.VerdictCounts) (proposals : List (Option Proposal)) : Type 0 where
  pub verdicts : HasVerdicts a o proposals
  pub others : List (List ℕ)
  pub ballot : HasCounted o.ballot others
  pub votes : (members : List ℕ)
      → votes_of (cast_of proposals) members ≡ votes_of (others ++ replicate o.exact (targets_of a)) members
  pub few : length others + o.exact ≤ length proposals

-- the receivers that made these proposals have been judged by the roles, and their votes are counted
pub record HasJudged (a : Assignment) (o : declared.VerdictCounts) (proposals : List (Option Proposal)) : Type 0 where
  pub verdicts : HasVerdicts a o proposals
  pub votes : HasCounted o.ballot (cast_of proposals)
