-- Laws of the fast round, of sums over trials, and of receivers.
use Rattle.std.specs.Prelude.{◌≡◌, ℕ, ◌+◌, ◌-◌, ◌*◌, ◌<◌, ◌≤◌, ◌||◌, false, List, ◌++◌, length, All, IsTrue}
use Rattle.cut_plan.specs.declared.cell.Cell.{Cell}
use Rattle.cut_plan.specs.declared.dead.Dead.TheVariants.{Speak}
use Rattle.cut_plan.specs.Cells.{trial_count}
use Rattle.cut_plan.specs.Plan.{IsPlan}
use Rattle.cut_fields.specs.declared.version.Version.TheVariants.{Two}
use Rattle.cut_plan.specs.Failing.{version_of}
use Rattle.cut_plan.specs.Targets.{deaf_of, upgraded}
use Rattle.cut_plan.specs.Values.{Values}
use Rattle.cut_rings.specs.Layout.{Layout}
use Rattle.cut_draws.specs.Source.{Source}
use Rattle.cut_alerts.specs.Drawn.{drawn}
use Rattle.cut_rings.specs.declared.edge.Edge.{Edge}
use Rattle.cut_alerts.specs.Assignment.{Assignment}
use Rattle.cut_outcome.specs.declared.verdict.Verdict.{Verdict}
use Rattle.cut_outcome.specs.declared.piece.Piece.{Piece}
use Rattle.cut_outcome.specs.declared.totals.Totals.{Totals}
use Rattle.cut_outcome.specs.Verdicts.{receivers_of, judged}
use Rattle.cut_outcome.specs.FastRound.{quorum_of, votes_of, most_votes}
use Rattle.cut_outcome.specs.Outcome.{receiver_proposal, cell_outcome, cell_at, outcome, deliveries_at}
use Rattle.cut_outcome.specs.Sum.{plus, without_settled, sum_of, trials_in, is_piece}
use Rattle.cut_outcome.specs.Possible.{ArePossible}

-- among at most n proposals, two lists of members that each have a quorum of n are equal
abbrev pub QuorumsAgree : Type 0
QuorumsAgree =
    (n : ℕ) (cast : List (List ℕ)) (a b : List ℕ) → 1 ≤ n → length cast ≤ n →
    quorum_of n ≤ votes_of cast a → quorum_of n ≤ votes_of cast b → a ≡ b

-- no list of members has more votes than the most
abbrev pub MostVotesAreMost : Type 0
MostVotesAreMost = (cast : List (List ℕ)) (members : List ℕ) → votes_of cast members ≤ most_votes cast

-- a trial in which a quorum proposed exactly the targets is one in which a quorum proposed the same
abbrev pub RightIsDecided : Type 0
RightIsDecided = (v : Values) (t : ℕ) → (outcome v t).right ≤ (outcome v t).decided

-- a trial counts as decided once at most
abbrev pub DecidedOnce : Type 0
DecidedOnce = (v : Values) (t : ℕ) → (outcome v t).decided ≤ 1

-- what the votes of trials say of the other numbers
pub record AreByVotes (v : Values) (x : Totals) : Type 0 where
  -- a receiver has a vote or is silent, not both
  pub votes : x.votes + x.silent ≤ x.receivers
  -- each trial that is decided has a quorum of votes
  pub decided : quorum_of v.nodes * x.decided ≤ x.votes

-- this holds of each trial
abbrev pub TrialsAreByVotes : Type 0
TrialsAreByVotes = (v : Values) (t : ℕ) → AreByVotes v (outcome v t)

-- and of the sums over any trials
abbrev pub SumsAreByVotes : Type 0
SumsAreByVotes = (v : Values) (ts : List ℕ) → AreByVotes v (sum_of v ts)

-- the sums over two lists of trials, added up, are the sums over both
abbrev pub SumsAddUp : Type 0
SumsAddUp = (v : Values) (xs ys : List ℕ) → sum_of v (xs ++ ys) ≡ plus (sum_of v xs) (sum_of v ys)

-- the trials of two pieces, the second of which begins where the first ends, are those of one
abbrev pub PiecesJoin : Type 0
PiecesJoin =
    (first m n : ℕ) →
    trials_in (record { first = first; count = m }) ++ trials_in (record { first = first + m; count = n })
    ≡ trials_in (record { first = first; count = m + n })

-- so the sums over a piece are those over its two parts, wherever it is divided
abbrev pub PartsAddUp : Type 0
PartsAddUp =
    (v : Values) (first m n : ℕ) →
    sum_of v (trials_in (record { first = first; count = m + n }))
    ≡ plus (sum_of v (trials_in (record { first = first; count = m })))
    (sum_of v (trials_in (record { first = first + m; count = n })))

-- where f processes fail, the receivers are all the others: ranks are a bijection
abbrev pub ReceiversAreTheRest : Type 0
ReceiversAreTheRest =
    (v : Values) (f : ℕ) (d : Source) (r : Layout) → length (receivers_of (drawn v f d r)) ≡ v.nodes - f

-- if no process fails, none lies and no link is cut, every receiver is silent
abbrev pub SilentWhereNothingFails : Type 0
SilentWhereNothingFails =
    (v : Values) (t : ℕ) → (cell_at v t).f ≡ 0 → v.liars ≡ 0 → v.links ≡ 0 → (outcome v t).silent ≡ v.nodes

-- a plan whose processes fail by crashes alone: no target is deaf, none lies and no link is cut
pub record OnlyCrashes (v : Values) : Type 0 where
  pub crash : (f : ℕ) → deaf_of v f ≡ 0
  pub no_liars : v.liars ≡ 0
  pub no_links : v.links ≡ 0

-- then no receiver proposes a process that has not crashed
abbrev pub NoneProposesOthers : Type 0
NoneProposesOthers =
    (v : Values) (t : ℕ) → IsPlan v → t < trial_count v → OnlyCrashes v → (outcome v t).extra ≡ 0

-- and where crashed observers raise alerts too, and some process has crashed, every receiver proposes
abbrev pub NoneIsSilentWhereObserversSpeak : Type 0
NoneIsSilentWhereObserversSpeak =
    (v : Values) (t : ℕ) → IsPlan v → t < trial_count v → OnlyCrashes v → v.dead ≡ Speak →
    1 ≤ (cell_at v t).f → (outcome v t).silent ≡ 0

-- the cell with other watermarks
abbrev pub with_marks : Cell → ℕ → ℕ → Cell
with_marks c h l = record { k = c.k; h = h; l = l; f = c.f }

-- a verdict, and that on a receiver which waits longer: no silence ends, no conflict is new, and who names a process
-- that is not a target still does so, or is silent
pub record IsMoreCautious (verdict longer : Verdict) : Type 0 where
  pub silent : IsTrue verdict.silent → IsTrue longer.silent
  pub conflict : IsTrue longer.conflict → IsTrue verdict.conflict
  pub extra : IsTrue verdict.extra → IsTrue (longer.extra || longer.silent)

-- the same of the numbers of a trial
pub record AreMoreCautious (totals longer : Totals) : Type 0 where
  pub receivers : longer.receivers ≡ totals.receivers
  pub conflicts : longer.conflicts ≤ totals.conflicts
  pub silent : totals.silent ≤ longer.silent
  pub extra : totals.extra + totals.silent ≤ longer.extra + longer.silent

-- with a higher H every receiver is judged so, by the same roles, draws and alerts
abbrev pub HigherHIsMoreCautious : Type 0
HigherHIsMoreCautious =
    (v : Values) (c : Cell) (h : ℕ) (r : Layout) (d : Source) (a : Assignment) (edges : List Edge) (j : ℕ) →
    c.l ≤ c.h → c.h ≤ h →
    IsMoreCautious (judged a (receiver_proposal v c r d edges j))
    (judged a (receiver_proposal v (with_marks c h c.l) r d edges j))

-- so in every trial no receiver's silence ends, and no conflict is new
abbrev pub HigherHHasFewerConflicts : Type 0
HigherHHasFewerConflicts =
    (v : Values) (c : Cell) (h : ℕ) (r : Layout) (d : Source) → c.l ≤ c.h → c.h ≤ h →
    AreMoreCautious (cell_outcome v c r d) (cell_outcome v (with_marks c h c.l) r d)

-- without implicit alerts a gap that is wider at both ends does the same
abbrev pub AWiderGapIsMoreCautious : Type 0
AWiderGapIsMoreCautious =
    (v : Values) (c : Cell) (h l : ℕ) (r : Layout) (d : Source) (a : Assignment) (edges : List Edge) (j : ℕ) →
    v.implicit ≡ false → l ≤ c.l → c.l ≤ c.h → c.h ≤ h →
    IsMoreCautious (judged a (receiver_proposal v c r d edges j))
    (judged a (receiver_proposal v (with_marks c h l) r d edges j))

abbrev pub AWiderGapHasFewerConflicts : Type 0
AWiderGapHasFewerConflicts =
    (v : Values) (c : Cell) (h l : ℕ) (r : Layout) (d : Source) →
    v.implicit ≡ false → l ≤ c.l → c.l ≤ c.h → c.h ≤ h →
    AreMoreCautious (cell_outcome v c r d) (cell_outcome v (with_marks c h l) r d)

-- the sums over any trials that are all of one cell are possible
abbrev pub TrialsHavePossibleTotals : Type 0
TrialsHavePossibleTotals =
    (v : Values) (c : Cell) (ts : List ℕ) → All (λ t. cell_at v t ≡ c) ts →
    ArePossible v c (length ts) (sum_of v ts)

-- so the sums over a piece are possible, since its trials are all of its first one's cell
abbrev pub PiecesHavePossibleTotals : Type 0
PiecesHavePossibleTotals =
    (v : Values) (p : Piece) → IsTrue (is_piece v p) →
    ArePossible v (cell_at v p.first) p.count (sum_of v (trials_in p))

-- a plan and its upgrade have the same outcome at each trial, except for `settled`
abbrev pub UpgradesKeepOutcomes : Type 0
UpgradesKeepOutcomes =
    (v : Values) (t : ℕ) → IsPlan v → t < trial_count v →
    without_settled (outcome (upgraded v) t) ≡ without_settled (outcome v t)

-- so they have the same pieces, with the same sums but for `settled`
abbrev pub UpgradesKeepSums : Type 0
UpgradesKeepSums =
    (v : Values) (p : Piece) → IsPlan v → IsTrue (is_piece v p) →
    without_settled (sum_of (upgraded v) (trials_in p)) ≡ without_settled (sum_of v (trials_in p))

-- in a trial of a plan of version 2, `settled` is at least the number of receivers that propose, and at most
-- that number times the deliveries at each
pub record LiesWithin (proposing deliveries settled : ℕ) : Type 0 where
  pub low : proposing ≤ settled
  pub high : settled ≤ proposing * deliveries

abbrev pub SettledLiesWithin : Type 0
SettledLiesWithin =
    (v : Values) (t : ℕ) → version_of v.failing ≡ Two →
    LiesWithin ((outcome v t).receivers - (outcome v t).silent) (deliveries_at v t) (outcome v t).settled

-- without implicit alerts each receiver that proposes has had H deliveries at least
abbrev pub SettledReachesHigh : Type 0
SettledReachesHigh =
    (v : Values) (t : ℕ) → version_of v.failing ≡ Two → v.implicit ≡ false →
    (cell_at v t).h * ((outcome v t).receivers - (outcome v t).silent) ≤ (outcome v t).settled

-- and with them it has had L
abbrev pub SettledReachesLow : Type 0
SettledReachesLow =
    (v : Values) (t : ℕ) → version_of v.failing ≡ Two → (cell_at v t).l ≤ (cell_at v t).h →
    (cell_at v t).l * ((outcome v t).receivers - (outcome v t).silent) ≤ (outcome v t).settled
