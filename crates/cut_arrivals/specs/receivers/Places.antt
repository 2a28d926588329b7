-- Images of all deliveries, and how many have an image up to a time.
use Rattle.std.specs.Prelude.{◌≡◌, ℕ, ◌==◌, not, nat_le, slice_index, count_by}
use Rattle.cut_arrivals.specs.proposals.Reception.{Reception, deliveries_of, image_of}
use Rattle.cut_arrivals.specs.declared.receivers.places.Places as declared
use Rattle.cut_arrivals.specs.receivers.LaneVerdicts.{has_bit}

-- in lane i is counted how many deliveries have an image up to a time, and the place is in doubt exactly if the time is
-- not the image of exactly one delivery
pub record HasCountedPlaces (x : Reception) (time i : ℕ) (p : declared.Places) : Type 0 where
  pub until : slice_index p.until i ≡ count_by (λ y. nat_le (image_of x y) time) (deliveries_of x)
  pub doubt : has_bit p.doubt i ≡ not (count_by (λ y. image_of x y == time) (deliveries_of x) == 1)
