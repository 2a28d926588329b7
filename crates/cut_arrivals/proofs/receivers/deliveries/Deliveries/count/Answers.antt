use Rattle.std.proofs.Common.{◌≡◌, ◌∙◌, ℕ, ◌+◌, ◌≤◌, ◌==◌, not, List, slice_index, ap, sym, subst, arith}
use Rattle.cut_arrivals.specs.blocks.Images.{never}
use Rattle.cut_arrivals.specs.declared.candidates.key_places.KeyPlace.{KeyPlace}
use Rattle.cut_arrivals.specs.candidates.KeyPlaces.{AreKeyPlaces}
use Rattle.cut_arrivals.specs.proposals.Reception.{deliveries_of, image_of}
use Rattle.cut_arrivals.specs.receivers.inside.Places.{reception_to, AreImagesOf}
use Rattle.cut_arrivals.proofs.Counts.{count_below, count_until, copy_more, few_more, next_count}
use Rattle.cut_arrivals.proofs.ReceiversJudged.{silent_bit}
use Rattle.cut_arrivals.proofs.receivers.deliveries.Deliveries.count.Goals as goal

pub loop-copy-preserved : goal.loop-copy-preserved
loop-copy-preserved c =
    let d = c.args.self.now in
    let k : ℕ = d.trial.rule.k in
    let copy : ℕ = c.loop-copy.copy in
    let blocks : List ℕ = d.key_places.now.blocks.items in
    let key_places : AreKeyPlaces k blocks d.trial.edges.now c.as_slice-key_places.result.now =
    subst (λ (ss : List KeyPlace). AreKeyPlaces k blocks d.trial.edges.now ss) (sym c.as_slice-key_places.ensures.value)
    d.key_places_are in
    record {
      until = λ i low knows. copy_more c.deliveries_stand_in_blocks.ensures.place (reception_to d i) copy i
          (slice_index c.next_of-next.result i) blocks c.as_slice-key_places.result.now c.as_slice.result.now _ _
          (subst (λ (vs : List (List (List ℕ))). AreImagesOf (reception_to d i) copy i blocks vs)
          (sym c.as_slice.ensures.value) (c.in_ok-draw.ensures.each i low knows))
          key_places (c.count-more.ensures i low) (c.loop-copy.invariant.until i low knows);
      before = λ i low knows. copy_more c.deliveries_stand_in_blocks.ensures.place (reception_to d i) copy i
          (slice_index c.args.time i) blocks c.as_slice-key_places.result.now c.as_slice-in-loop-copy.result.now _ _
          (subst (λ (vs : List (List (List ℕ))). AreImagesOf (reception_to d i) copy i blocks vs)
          (sym c.as_slice-in-loop-copy.ensures.value) (c.in_ok-draw.ensures.each i low knows))
          key_places (c.count-more-in-loop-copy.ensures i low) (c.loop-copy.invariant.before i low knows);
      few_until = λ i low. few_more copy k blocks d.trial.edges.now c.as_slice-key_places.result.now _ _ _
          key_places d.few (c.count-more.ensures i low) (c.loop-copy.invariant.few_until i low);
      few_before = λ i low. few_more copy k blocks d.trial.edges.now c.as_slice-key_places.result.now _ _ _
          key_places d.few (c.count-more-in-loop-copy.ensures i low) (c.loop-copy.invariant.few_before i low);
    }

pub returns-clause-counted : goal.returns-clause-counted
returns-clause-counted c i low knows comes =
    let x = reception_to c.args.self.now i in
    let time : ℕ = slice_index c.args.time i in
    let until : ℕ = slice_index c.loop-copy.until i in
    let before : ℕ = slice_index c.loop-copy.before i in
    let copies : ℕ = c.args.self.now.trial.copies in
    let few : before ≤ never =
    omega (arith, c.loop-copy.invariant.few_before i low, c.loop-copy.auto.copy-end, c.args.self.now.trial.few) in
    let all : c.loop-copy.copy ≡ copies = omega (arith, c.loop-copy-test.false, c.loop-copy.auto.copy-end) in
    let until_is : until ≡ count_below x copies (time + 1) =
    c.loop-copy.invariant.until i low knows ∙ ap (λ (n : ℕ). count_below x n (slice_index c.next_of-next.result i)) all
    ∙ ap (λ (b : ℕ). count_below x copies b) (c.next_of-next.ensures.next i low comes) in
    let before_is : before ≡ count_below x copies time =
    c.loop-copy.invariant.before i low knows ∙ ap (λ (n : ℕ). count_below x n time) all in
    record {
      until = until_is ∙ sym (count_until (λ y. image_of x y) time (deliveries_of x));
      doubt = silent_bit (until == before + 1) _ _ (c.bits_of-doubt.ensures.bits i low) (c.not_next.ensures i low few)
          ∙ ap not (next_count x time before until before_is until_is);
    }
