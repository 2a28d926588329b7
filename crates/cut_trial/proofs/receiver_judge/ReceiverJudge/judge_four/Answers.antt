use Rattle.std.proofs.Common.{rules, ◌≡◌, ℕ, ◌+◌, ◌-◌, ◌<◌, min, Bool, List, get_or, length, ap, sym, subst, ◌∙◌, arith}
use Rattle.std.specs.Prelude.{slice_index, IsTrue}
use Rattle.std.proofs.lemmas.Option.{IfSome_then}
use Rattle.std.proofs.lemmas.List.{length-map}
use Rattle.cut_arrivals.specs.proposals.Reception.{highs_at}
use Rattle.cut_arrivals.specs.blocks.Images.{never}
use Rattle.cut_arrivals.specs.candidates.Candidates.{subjects_of}
use Rattle.cut_arrivals.specs.declared.receivers.receivers.Receivers.{Receivers}
use Rattle.cut_arrivals.specs.receivers.LaneVerdicts.{flagged, has_bit, members_at, IsVerdictOn}
use Rattle.cut_arrivals.specs.receivers.Received.{reception_of}
use Rattle.cut_outcome.proofs.Words.{is_target}
use Rattle.cut_trial.proofs.Placed.{found_placed}
use Rattle.cut_trial.specs.declared.receiver_judge.PlacedVerdict.{PlacedVerdict}
use Rattle.cut_trial.specs.inside.Judging.{IsPlacedVerdict, IsPlacedVerdictIn}
use Rattle.cut_plan.specs.Failing.{version_of}
use Rattle.cut_arrivals.specs.proposals.Reception.{Reception}
use Rattle.cut_trial.proofs.Judged.{receiver_within, same_judged}
use Rattle.cut_trial.proofs.receiver_judge.ReceiverJudge.judge_four.Goals as goal

pub receive-requires : goal.receive-requires
receive-requires c = λ k d below.
    let setup = c.args.context.setup in
    let at = c.four_from-four.ensures.all k d below in
    let j = get_or c.four_from-four.result k d in
    let within = receiver_within setup.roles.now setup.receivers.now at.0 j setup.receivers_are at.1 in
    omega (arith, within, at.2, setup.nodes, setup.alerts.now.study.accepted.few_nodes)

pub judge-lane_verdicts-requires : goal.judge-lane_verdicts-requires
judge-lane_verdicts-requires c =
    let context = c.args.context in
    let heard = c.in_ok-receive.ensures 0 (omega arith) in
    let flags = ap (λ (bs : List Bool). length bs) context.wanted_are in
    let stable_at = ap (λ (ts : List ℕ). length ts) heard.stable_at in
    omega (
      arith,
      flags,
      length-map (subjects_of context.trial.candidates.now.candidates.items) (λ s. is_target context.setup.roles.now s),
      stable_at,
      length-map c.receive.new.times.stable_at.items (λ v. slice_index v 0),
      length-map (subjects_of context.trial.candidates.now.candidates.items)
          (λ s. highs_at (reception_of context.trial (slice_index c.four_from-four.result 0)) never s),
    )

pub judge_one-requires-clause-placed_verdict : goal.judge_one-requires-clause-placed_verdict
judge_one-requires-clause-placed_verdict c =
    let context = c.args.context in
    let version = version_of context.setup.alerts.now.study.plan.now.failing in
    let subjects : List ℕ = subjects_of context.trial.candidates.now.candidates.items in
    let wanted : List ℕ = flagged subjects context.wanted.now in
    let lane : ℕ = c.loop-lane.lane in
    let end : c.min-lane-end.result ≡ min 4 (length context.setup.receivers.now - c.args.first) = search rules in
    let low : lane < 4 = omega (arith, end, c.loop-lane-test.true) in
    let inside : c.args.first + lane < length context.setup.receivers.now = omega (arith, end, c.loop-lane-test.true) in
    let x : Reception = reception_of context.trial (slice_index c.four_from-four.result lane) in
    let times : Receivers = c.places.new.self.times in
    let heard = c.in_ok-receive.ensures lane low in
    let finds = c.judge-lane_verdicts.ensures.finds x subjects lane low heard in
    let f : PlacedVerdict = record { lane_verdict = c.at.result; place = c.place_in.result } in
    let placed_verdict : IsPlacedVerdict x version wanted (has_bit c.receive.new.times.proposal_time.doubt lane) f
    = record {
      finds = subst (λ f. IsVerdictOn wanted (members_at x) f) (sym c.at.ensures.lane_verdict) finds;
      certain = λ set. c.at.ensures.doubtful.1 (subst (λ n. IsTrue (has_bit n lane))
          (sym c.judge-lane_verdicts.ensures.doubtful) set);
      placed = found_placed x version wanted lane (has_bit c.receive.new.times.proposal_time.doubt lane)
          c.judge-lane_verdicts.result c.in_ok-places.places c.place_in.result
          low
          c.place_in.ensures.unasked c.place_in.ensures.place c.in_ok-places.ensures.unasked
          (IfSome_then c.in_ok-places.places c.in_ok-places.ensures.places
          (λ p counted. counted lane subjects low heard))
          finds
          (λ is. subst (λ n. IsTrue (has_bit n lane)) c.judge-lane_verdicts.ensures.doubtful (c.at.ensures.doubtful.0
          (c.at.ensures.lane_verdict ∙ is)));
      few = c.place_in.ensures.few;
    } in
    let all : IsPlacedVerdictIn x version subjects context.wanted.now times lane f = record {
      few = low;
      heard = c.in_ok-places.ensures.same _ subjects lane heard;
      placed_verdict = subst (λ n. IsPlacedVerdict x version wanted (has_bit n lane) f)
          (sym c.in_ok-places.ensures.doubt) placed_verdict;
    } in
    subst (λ (t : Receivers). IsPlacedVerdictIn (reception_of context.trial
    (slice_index context.setup.receivers.now (c.args.first + lane))) version subjects context.wanted.now t lane f)
    (sym c.loop-lane.invariant.times)
    (subst (λ (j : ℕ). IsPlacedVerdictIn (reception_of context.trial j) version subjects context.wanted.now times lane
    f)
    (c.four_from-four.ensures.each lane inside low) all)

pub returns-clause-judged : goal.returns-clause-judged
returns-clause-judged c =
    grind (arith, same_judged)

pub places-requires : goal.places-requires
places-requires c = record {
  receivers = λ k d below.
      (let setup = c.args.context.setup in
      let at = c.four_from-four.ensures.all k d below in
      let j = get_or c.four_from-four.result k d in
      let within = receiver_within setup.roles.now setup.receivers.now at.0 j setup.receivers_are at.1 in
      omega (arith, within, at.2, setup.nodes, setup.alerts.now.study.accepted.few_nodes));
}
