use Rattle.std.proofs.Common.{◌∙◌, ℕ, ◌<◌, List, length, None, ap, subst, slice_index_or, arith}
use Rattle.cut_arrivals.specs.lanes.Lanes.{lane}
use Rattle.cut_arrivals.specs.declared.candidates.candidate.Cause.{Cause}
use Rattle.cut_arrivals.specs.candidates.Candidates.{cause_in}
use Rattle.cut_arrivals.specs.receivers.inside.Times.{reception_in, subjects_in, time_of_cause}
use Rattle.cut_arrivals.proofs.Bounds.{few_causes}
use Rattle.cut_arrivals.proofs.ReceiversChoices.{lane_more}
use Rattle.cut_arrivals.proofs.receivers.images.Images.gather_counted.Goals as goal

pub loop-cause-init : goal.loop-cause-init
loop-cause-init c = grind (arith, few_causes)

pub loop-cause-preserved : goal.loop-cause-preserved
loop-cause-preserved c = record {
  times = λ i low.
      let images = c.args.self.now in
      let f : Cause → ℕ = λ cause. time_of_cause (reception_in images i) c.args.candidate.now.subject
      (cause_in images.trial.candidates.now.blocks.items (subjects_in images) cause) in
      let none : Cause = record { heard = None; gained = None } in
      let index : ℕ = c.loop-cause.cause-index in
      ap (λ (vs : List (List ℕ)). lane i vs) c.push_reserved.ensures.items
      ∙ lane_more i f c.args.candidate.now.causes.items index none c.loop-cause.values.items c.counted_from.result
      (subst (λ (causes : List Cause). index < length causes) c.deref-cause-items.ensures.value c.loop-cause-test.true)
      (c.loop-cause.invariant.times i low) (c.counted_from.ensures i c.args.candidate.now.subject low
      (c.requires.reported_at.own i low)
      ∙ ap (λ (causes : List Cause). f (slice_index_or causes index none)) c.deref-cause-items.ensures.value);
  many = omega (arith, c.push_reserved.ensures.len, c.loop-cause.invariant.many);
  room = omega (arith, c.push_reserved.ensures.capacity, c.loop-cause.invariant.room);
  capacity = c.push_reserved.ensures.capacity ∙ c.loop-cause.invariant.capacity;
}
