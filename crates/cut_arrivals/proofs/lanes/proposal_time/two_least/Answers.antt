use Rattle.std.proofs.Common.{◌∙◌, ℕ, ◌+◌, ◌<◌, ◌≤◌, List, [], length, take, slice_index, slice_index_or, subst, sym}
use Rattle.std.proofs.Common.{refl, arith}
use Rattle.cut_arrivals.specs.blocks.Images.{never}
use Rattle.cut_arrivals.specs.ranks.Ranks.{AreRanks}
use Rattle.cut_arrivals.specs.lanes.Lanes.{lane}
use Rattle.cut_arrivals.proofs.Insertions.{filled_lane, taken_lane, bound_lane, all_lane, placed_rank}
use Rattle.cut_arrivals.proofs.lanes.proposal_time.two_least.Goals as goal

pub loop-low-init : goal.loop-low-init
loop-low-init c = record { many = refl; ranks = λ i low. filled_lane i (never + 1) 2 low }

pub loop-low-preserved : goal.loop-low-preserved
loop-low-preserved c =
    let place : ℕ = c.loop-low.low-index in
    let reported_at : List (List ℕ) = c.args.reported_at.now in
    let one : place < length reported_at = c.loop-low-test.true in
    let kept = c.insert.auto.sorted in
    record {
      many = kept ∙ c.loop-low.invariant.many;
      ranks = λ i low.
          let within : slice_index (slice_index_or reported_at place []) i ≤ never + 1 =
          omega (arith, bound_lane i place never reported_at one (c.requires.times i low)) in
          subst (λ ys. AreRanks (never + 1) ys (lane i c.insert.new.sorted)) (sym (taken_lane i place reported_at one))
          (c.insert.ensures.ranks i (never + 1) (take place (lane i reported_at)) low within
          (c.loop-low.invariant.ranks i low));
    }

pub returns-clause-first : goal.returns-clause-first
returns-clause-first c i low =
    grind (arith, all_lane, placed_rank)

pub returns-clause-second : goal.returns-clause-second
returns-clause-second c i low =
    grind (arith, all_lane, placed_rank)
