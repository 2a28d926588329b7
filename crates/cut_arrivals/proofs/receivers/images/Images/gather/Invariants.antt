use Rattle.std.proofs.Common.{◌≡◌, ℕ, ◌<◌, ◌≤◌, length, map, take, vec_len, vec_capacity}
use Rattle.cut_arrivals.specs.lanes.Lanes.{lane}
use Rattle.cut_arrivals.specs.candidates.KeyPlaces.{key_in}
use Rattle.cut_arrivals.specs.receivers.inside.Times.{reception_in, image_of_key}
use Rattle.cut_arrivals.proofs.receivers.images.Images.gather.Given as goal

-- the images of the key places so far
abbrev pub invariant-loop-key_place : goal.invariant-loop-key_place
invariant-loop-key_place l = record {
  images : (i : ℕ) → i < 4 → lane i l.values.items
      ≡ map (λ key_place. image_of_key (reception_in l.self i)
      (key_in l.self.trial.candidates.now.blocks.items key_place))
      (take l.key_place-index l.key_places);
  many : vec_len l.values ≡ l.key_place-index;
  room : length l.key_places ≤ vec_capacity l.values;
  capacity : vec_capacity l.values ≡ vec_capacity l.initial.values;
}
