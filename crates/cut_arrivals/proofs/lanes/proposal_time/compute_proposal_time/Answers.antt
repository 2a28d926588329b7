use Rattle.std.proofs.Common.{◌∙◌, ℕ, ◌+◌, ◌<◌, cond, List, length, slice_index, ap, arith}
use Rattle.cut_arrivals.specs.blocks.Images.{never}
use Rattle.cut_arrivals.specs.ranks.Closing.{IsLeast}
use Rattle.cut_arrivals.proofs.RanksRanks.{least_from_rank}
use Rattle.cut_arrivals.proofs.Closings.{doubt_is}
use Rattle.cut_arrivals.specs.lanes.Lanes.{lane}
use Rattle.cut_arrivals.proofs.Insertions.{below_lane, length_lane, first_below}
use Rattle.cut_arrivals.proofs.lanes.proposal_time.compute_proposal_time.Goals as goal

pub returns-clause-first : goal.returns-clause-first
returns-clause-first c i low =
    search (arith, least_from_rank, length_lane, below_lane, c.two_least.ensures.first, c.requires.times)

pub returns-clause-doubt : goal.returns-clause-doubt
returns-clause-doubt c i low =
    let reported_at : List ℕ = lane i c.args.reported_at.now in
    let first : ℕ = slice_index c.two_least.result.0 i in
    let some = c.requires.some in
    let many : 0 < length reported_at = omega (arith, some, length_lane i c.args.reported_at.now) in
    let below = below_lane i never c.args.reported_at.now (c.requires.times i low) in
    let least : IsLeast reported_at first =
    least_from_rank (never + 1) reported_at first (c.two_least.ensures.first i low) many below in
    c.doubts-doubt.ensures.bits i low
    ∙ ap (λ b. cond {A = ℕ} b 1 0)
    (doubt_is (never + 1) reported_at first (slice_index c.two_least.result.1 i)
    (slice_index c.closing_time-time.result i)
    (slice_index c.marks-marked.result i) (first_below (never + 1) reported_at first least many below) least
    (c.two_least.ensures.first i low) (c.two_least.ensures.second i low) (c.marks-marked.ensures i low))
