use Rattle.std.proofs.Common.{slice_index}
use Rattle.std.proofs.lemmas.Result.{IfOk-weaker}
use Rattle.cut_arrivals.specs.receivers.Received.{reception_of}
use Rattle.cut_arrivals.proofs.Proposed.{time_within, placed, knows_images}
use Rattle.cut_arrivals.proofs.receivers.receivers.Receivers.places.Goals as goal

pub returns-clause-places : goal.returns-clause-places
returns-clause-places c =
    IfOk-weaker c.count.result _ _ (λ p counts i subjects low h clear apart.
    let x = reception_of c.args.trial (slice_index c.args.receivers i) in
    let f = c.args.self.now in
    placed c.images_give_the_place.ensures x subjects i f p h clear
    (counts i low (knows_images c.args.trial c.args.receivers c.args.key_places.now.blocks.items
    c.as_slice-blocks.result.now
    c.as_slice-kept.result.now c.kept_for.result i f h.kept c.as_slice-blocks.ensures.value c.as_slice-kept.ensures.value
    c.kept_for.ensures.same c.kept_for.ensures.kept c.kept_for.ensures.known)
    (time_within x subjects i f h)) apart)
    c.count.ensures.counted

pub returns-clause-counted : goal.returns-clause-counted
returns-clause-counted c =
    IfOk-weaker c.count.result _ _ (λ p counts i subjects low h.
    let f = c.args.self.now in
    counts i low (knows_images c.args.trial c.args.receivers c.args.key_places.now.blocks.items
    c.as_slice-blocks.result.now
    c.as_slice-kept.result.now c.kept_for.result i f h.kept c.as_slice-blocks.ensures.value c.as_slice-kept.ensures.value
    c.kept_for.ensures.same c.kept_for.ensures.kept c.kept_for.ensures.known)
    (time_within (reception_of c.args.trial (slice_index c.args.receivers i)) subjects i f h))
    c.count.ensures.counted
