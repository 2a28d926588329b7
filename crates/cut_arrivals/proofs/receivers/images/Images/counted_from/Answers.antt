use Rattle.std.proofs.Common.{◌≡◌, ◌∙◌, ℕ, ◌<◌, List, [], min, max, slice_index, slice_index_or, option_map, Option}
use Rattle.std.proofs.Common.{IfSome, length, ap, sym, subst}
use Rattle.std.proofs.lemmas.List.{get_or-replicate}
use Rattle.cut_arrivals.specs.blocks.Images.{never}
use Rattle.cut_arrivals.specs.proposals.Reception.{lows_at}
use Rattle.cut_arrivals.specs.declared.candidates.key_places.KeyPlace.{KeyPlace}
use Rattle.cut_arrivals.specs.candidates.KeyPlaces.{key_in}
use Rattle.cut_arrivals.specs.receivers.inside.Times.{reception_in, subjects_in, image_if, time_if}
use Rattle.cut_arrivals.proofs.ReceiversPlaced.{low_at}
use Rattle.cut_arrivals.proofs.receivers.images.Images.counted_from.Goals.{in-Some, in-None, in-Some-gained, in-None-gained}
use Rattle.cut_arrivals.proofs.receivers.images.Images.counted_from.Goals as goal

pub returns : goal.returns
returns c i s low own =
    let images = c.args.self.now in
    let x = reception_in images i in
    let key : KeyPlace → ℕ × ℕ = λ key_place. key_in images.trial.candidates.now.blocks.items key_place in
    let of : Option ℕ → ℕ = λ o. time_if x s (image_if x (option_map key c.args.cause.heard)) o in
    let name : ℕ → ℕ = λ place. slice_index (subjects_in images) place in
    let image : slice_index c.match-cause.image i ≡ image_if x (option_map key c.args.cause.heard) =
    elim c.match-cause.branch [
      | in-Some w ↦ ap (λ (v : List ℕ). slice_index v i) w.image-is ∙ w.image-image.ensures i low
          ∙ sym (ap (λ (o : Option KeyPlace). image_if x (option_map key o)) w.in-Some.is)
      | in-None w ↦ ap (λ (v : List ℕ). slice_index v i) w.image-is ∙ get_or-replicate 4 i never 0 low
          ∙ sym (ap (λ (o : Option KeyPlace). image_if x (option_map key o)) w.in-None.is)
    ] in
    elim c.match-cause-2.branch [
      | in-Some-gained w ↦ ap (λ (v : List ℕ). slice_index v i) w.result-is ∙ w.earlier.ensures i low
          ∙ ap (λ (m : ℕ). min m (max (slice_index c.args.low i) (slice_index
          (slice_index_or c.args.reported_at.now w.from.result []) i))) image
          ∙ ap (λ (m : ℕ). min (image_if x (option_map key c.args.cause.heard)) (max m (slice_index
          (slice_index_or c.args.reported_at.now w.from.result []) i))) own
          ∙ ap (λ (m : ℕ). min (image_if x (option_map key c.args.cause.heard)) (max (lows_at x never s) m))
          (ap (λ (p : ℕ). slice_index (slice_index_or c.args.reported_at.now p []) i) w.from.ensures
          ∙ low_at images c.args.reported_at.now i w.in-Some-gained.place c.requires.reported_at low
          (subst (λ (o : Option ℕ). IfSome o (λ place. place < length
          (subjects_in images))) w.in-Some-gained.is c.requires.cause.gained))
          ∙ sym (ap (λ (o : Option ℕ). of (option_map name o)) w.in-Some-gained.is)
      | in-None-gained w ↦ ap (λ (v : List ℕ). slice_index v i) w.result-is ∙ image
          ∙ sym (ap (λ (o : Option ℕ). of (option_map name o)) w.in-None-gained.is)
    ]
