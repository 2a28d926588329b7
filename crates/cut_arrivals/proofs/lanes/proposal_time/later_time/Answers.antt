use Rattle.std.proofs.Common.{ℕ, ◌<◌, List, [], length, slice_index, slice_index_or, arith}
use Rattle.cut_arrivals.proofs.Closings.{raised_none, raised_more, raised_all}
use Rattle.cut_arrivals.specs.lanes.Lanes.{lane}
use Rattle.cut_arrivals.proofs.Insertions.{value_lane, length_lane}
use Rattle.cut_arrivals.proofs.lanes.proposal_time.later_time.Goals as goal

pub loop-place-init : goal.loop-place-init
loop-place-init c i first low =
    raised_none first (lane i c.args.reported_at.now) (lane i c.args.stable_at.now) (slice_index c.args.time i)

pub loop-place-preserved : goal.loop-place-preserved
loop-place-preserved c i first low =
    let place : ℕ = c.loop-place.place in
    let reported_at : List (List ℕ) = c.args.reported_at.now in
    let stable_at : List (List ℕ) = c.args.stable_at.now in
    let one : place < length reported_at = c.loop-place-test.true in
    let pairs = c.requires.pairs in
    raised_more first place (lane i reported_at) (lane i stable_at) (slice_index c.args.time i)
    (slice_index c.loop-place.later i)
    (slice_index (slice_index_or reported_at place []) i) (slice_index (slice_index_or stable_at place []) i)
    (slice_index c.raised-next.result i) (omega (arith, one, length_lane i reported_at))
    (value_lane i place reported_at one)
    (value_lane i place stable_at (omega (arith, one, pairs))) (c.raised-next.ensures i low)
    (c.loop-place.invariant i first low)

pub returns : goal.returns
returns c i first low =
    let all = c.loop-place-test.false in
    raised_all first c.loop-place.place (lane i c.args.reported_at.now) (lane i c.args.stable_at.now)
    (slice_index c.args.time i)
    (slice_index c.loop-place.later i) (omega (arith, all, length_lane i c.args.reported_at.now))
    (c.loop-place.invariant i first low)
