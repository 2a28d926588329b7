use Rattle.std.proofs.Common.{◌≡◌, ◌∙◌, ℕ, Bool, nat_lt, cond, List, [], slice_index, slice_index_or, ap}
use Rattle.cut_arrivals.specs.lanes.Lanes.{lane}
use Rattle.cut_arrivals.proofs.Marks.{mark_late, mark_ended}
use Rattle.cut_arrivals.proofs.receivers.lanes.others.Goals.{then-wanted-place, else-wanted-place}
use Rattle.cut_arrivals.proofs.receivers.lanes.others.Goals as goal
use Rattle.cut_arrivals.proofs.Insertions.{value_lane}

pub loop-place-preserved : goal.loop-place-preserved
loop-place-preserved c i low =
    let place : ℕ = c.loop-place.place in
    let t : ℕ = slice_index c.args.time i in
    let stable_at : List ℕ = lane i c.args.stable_at.now in
    let flags : List Bool = c.args.wanted.now in
    let high : slice_index
    (slice_index_or c.args.stable_at.now place []) i ≡ slice_index stable_at place = value_lane i place
    c.args.stable_at.now
    c.loop-place-test.true in
    elim c.if-wanted-place.branch [
      | then-wanted-place w ↦ ap (λ (v : List ℕ). slice_index v i) w.next-is ∙ w.marked_late-next.ensures i low
          ∙ ap (λ (h : ℕ). cond (nat_lt t h) 1 (slice_index c.loop-place.marks i)) high
          ∙ mark_late t stable_at flags place (slice_index c.loop-place.marks i) w.if-wanted-place.true
          (c.loop-place.invariant i low)
      | else-wanted-place w ↦ ap (λ (v : List ℕ). slice_index v i) w.next-is ∙ w.marked_ended-next.ensures i low
          ∙ ap (λ (h : ℕ). cond (nat_lt t h) (slice_index c.loop-place.marks i) 1) high
          ∙ mark_ended t stable_at flags place (slice_index c.loop-place.marks i) w.if-wanted-place.false
          (c.loop-place.invariant i low)
    ]
