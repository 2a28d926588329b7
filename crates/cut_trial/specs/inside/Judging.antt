-- How the receivers of a trial are judged. Only the crate's private clauses cite it.
use Rattle.std.specs.Prelude.{◌≡◌, ℕ, ◌<◌, ◌^◌, Bool, false, List, map, take, length, Option, Some, IfSome, IsTrue}
use Rattle.cut_alerts.specs.Assignment.{Assignment}
use Rattle.cut_plan.specs.declared.cell.Cell.{Cell}
use Rattle.cut_plan.specs.Failing.{version_of}
use Rattle.cut_draws.specs.Source.{Source}
use Rattle.cut_detector.specs.Rule.{rule_of}
use Rattle.cut_detector.specs.declared.proposal.Proposal.{Proposal}
use Rattle.cut_fields.specs.declared.version.Version.{Version}
use Rattle.cut_arrivals.specs.proposals.Reception.{Reception, proposal_at}
use Rattle.cut_arrivals.specs.declared.receivers.lane_verdict.LaneVerdict.{LaneVerdict}
use Rattle.cut_arrivals.specs.declared.receivers.receivers.Receivers.{Receivers}
use Rattle.cut_arrivals.specs.receivers.LaneVerdicts.{members_at, has_bit, flagged, IsVerdictOn}
use Rattle.cut_arrivals.specs.receivers.Received.{HasReceived}
use Rattle.cut_trial.specs.inside.Counted.{IsJudging}
use Rattle.cut_trial.specs.declared.receiver_judge.PlacedVerdict.{PlacedVerdict}
use Rattle.cut_trial.specs.declared.input.TrialInput.{TrialInput}
use Rattle.cut_trial.specs.declared.alerts.Alerts.{Alerts}
use Rattle.cut_trial.specs.declared.replays.Replay.{Replay}
use Rattle.cut_trial.specs.declared.receiver_judge.ReceiverJudge.{ReceiverJudge}
use Rattle.cut_outcome.specs.Outcome.{receiver_proposal, IsPlaced}

-- what receiver j proposes if these alerts are raised
abbrev pub proposed_by : Alerts → Source → ℕ → Option Proposal
proposed_by x d j = receiver_proposal x.study.plan.now x.cell x.study.rings.now d x.edges.items j

-- what the first n of some receivers propose
abbrev pub proposals_to : Alerts → Source → List ℕ → ℕ → List (Option Proposal)
proposals_to x d receivers n = map (λ j. proposed_by x d j) (take n receivers)

-- a detector replays a cell of a study: over its rings, by the cell's rule
pub record BelongsTo (study : TrialInput) (cell : Cell) (x : Replay) : Type 0 where
  pub layout : x.detector.layout ≡ study.rings.now
  pub rule : x.detector.rule ≡ rule_of cell.k cell.h cell.l study.plan.now.implicit

-- this judge is for a cell of a study: its detector replays it, and it reports places as the plan's version asks
pub record AreFor (study : TrialInput) (cell : Cell) (x : ReceiverJudge) : Type 0 where
  pub replays : BelongsTo study cell x.replays
  pub version : x.outcome.version ≡ version_of study.plan.now.failing

-- a judge for a cell of a study, and draws of the source that the alerts' blocks are of
pub record AreReady (x : Alerts) (blocks : Source) (receiver_judge : ReceiverJudge) (d : Source) : Type 0 where
  pub fit : AreFor x.study x.cell receiver_judge
  pub draws : d ≡ blocks

-- there is a receiver at an index, and those before it have been judged
pub record IsNext (x : Alerts) (roles : Assignment) (d : Source) (receivers : List ℕ) (index : ℕ)
    (receiver_judge : ReceiverJudge)
    : Type 0 where
  pub some : index < length receivers
  pub before : IsJudging roles receiver_judge.outcome (proposals_to x d receivers index)

-- what was found of a receiver of this reception, compared with these expected members: what it proposes, if the
-- proposal time of its lane is in no doubt, and at which place, where a plan's version asks for it
pub record IsPlacedVerdict (x : Reception) (version : Version) (wanted : List ℕ) (doubt : Bool)
    (placed_verdict : PlacedVerdict) : Type 0 where
  pub finds : IsVerdictOn wanted (members_at x) placed_verdict.lane_verdict
  pub certain : IsTrue doubt → placed_verdict.lane_verdict ≡ LaneVerdict.Doubtful
  pub placed : IfSome placed_verdict.place (λ n. doubt ≡ false
      → IfSome (proposal_at x) (λ p. IsPlaced version n (Some p)))
  pub few : IfSome placed_verdict.place (λ n. n < 2 ^ 32)

-- that is what was found of it in its lane, by the times of four receivers, over candidates of which some are wanted
pub record IsPlacedVerdictIn (x : Reception) (version : Version) (subjects : List ℕ) (wanted : List Bool)
    (times : Receivers)
    (lane : ℕ) (f : PlacedVerdict) : Type 0 where
  pub few : lane < 4
  pub heard : HasReceived x subjects lane times
  pub placed_verdict : IsPlacedVerdict x version (flagged subjects wanted) (has_bit times.proposal_time.doubt lane) f
