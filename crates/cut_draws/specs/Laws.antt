-- Laws of the order in which the alerts of a trial come to a receiver: that there is one, how many deliveries it has,
-- when an edge comes first, and what the high bits of the keys say of it.
use Rattle.std.specs.Prelude.{◌≡◌, ℕ, ◌+◌, ◌*◌, ◌/◌, ◌^◌, ◌<◌, ◌≤◌, ◌↔◌, Bool, false, if◌then◌else◌, List, ◌∷◌, map}
use Rattle.std.specs.Prelude.{length, slice_index_or, count_by, fold, min, nat_lt, nat_le, IsTrue, Contains}
use Rattle.std.specs.List.{range_with_len, sum_by}
use Rattle.cut_rings.specs.declared.edge.Edge.{Edge}
use Rattle.cut_rings.specs.Edges.{set_of}
use Rattle.cut_draws.specs.declared.delivery.Delivery.{Delivery}
use Rattle.cut_draws.specs.Source.{Source, key_at}
use Rattle.cut_draws.specs.DeliveryOrder.{are_distinct, all_deliveries, delivery_place, delivery_rank, early}
use Rattle.cut_draws.specs.DeliveryOrder.{IsDeliveryOrder}

-- ---- the order

-- distinct edges have one
abbrev pub DistinctEdgesHaveAnOrder : Type 0
DistinctEdgesHaveAnOrder =
    (d : Source) (receiver k : ℕ) (edges : List Edge) (copies : ℕ) → IsTrue (are_distinct k edges) →
    (order : List Delivery) × IsDeliveryOrder d receiver k edges copies order

-- and each delivery stands in it at the number of those that come before it
abbrev pub DeliveriesStandAtTheirRanks : Type 0
DeliveriesStandAtTheirRanks =
    (d : Source) (receiver k : ℕ) (edges : List Edge) (copies : ℕ) (order : List Delivery) (x other : Delivery) →
    IsDeliveryOrder d receiver k edges copies order → Contains (all_deliveries edges copies) x →
    (delivery_rank d receiver k edges copies x < length order)
    × (slice_index_or order (delivery_rank d receiver k edges copies x) other ≡ x)

-- ---- the deliveries

-- they are the copies of the given edges
abbrev pub DeliveriesAreOfGivenEdges : Type 0
DeliveriesAreOfGivenEdges =
    (edges : List Edge) (copies : ℕ) (x : Delivery) →
    Contains (all_deliveries edges copies) x
    ↔ ((x.copy < copies) × IsTrue (set_of edges x.edge.ring x.edge.subject))

-- so there are as many as copies of all edges
abbrev pub DeliveriesAreCopiesOfEdges : Type 0
DeliveriesAreCopiesOfEdges =
    (edges : List Edge) (copies : ℕ) → length (all_deliveries edges copies) ≡ copies * length edges

-- and those that pass a test are counted copy by copy
abbrev pub DeliveriesAreCountedByCopies : Type 0
DeliveriesAreCountedByCopies =
    (test : Delivery → Bool) (edges : List Edge) (copies : ℕ) →
    count_by test (all_deliveries edges copies)
    ≡ sum_by (λ c. count_by (λ e. test (record { edge = e; copy = c })) edges) (range_with_len 0 copies)

-- ---- when an edge comes first

-- the least that a function gives of the copies of an edge, and `end` if the edge isn't given or there is no copy
abbrev pub least_of_copies : List Edge → ℕ → ℕ → (Delivery → ℕ) → ℕ → ℕ → ℕ
least_of_copies edges copies end f ring subject =
    if set_of edges ring subject then
    fold (λ least c. min least (f (record { edge = record { ring = ring; subject = subject }; copy = c }))) end
    (range_with_len 0 copies)
    else end

-- when a delivery comes: how many have come then, itself among them
abbrev pub time_of : Source → ℕ → ℕ → List Edge → ℕ → Delivery → ℕ
time_of d receiver k edges copies x = delivery_rank d receiver k edges copies x + 1

-- when the first copy of an edge comes; one more than the number of deliveries if none does
abbrev pub first_time : Source → ℕ → ℕ → List Edge → ℕ → ℕ → ℕ → ℕ
first_time d receiver k edges copies =
    least_of_copies edges copies (copies * length edges + 1) (time_of d receiver k edges copies)

-- after n deliveries a receiver has heard of exactly those edges whose first time is at most n
abbrev pub EdgesComeAtTheirFirstTime : Type 0
EdgesComeAtTheirFirstTime =
    (d : Source) (receiver k : ℕ) (edges : List Edge) (copies n ring subject : ℕ) → n ≤ copies * length edges →
    early d receiver k edges copies n ring subject ≡ nat_le (first_time d receiver k edges copies ring subject) n

-- before the first delivery it has heard of none
abbrev pub NoneIsHeardOfAtFirst : Type 0
NoneIsHeardOfAtFirst =
    (d : Source) (receiver k : ℕ) (edges : List Edge) (copies ring subject : ℕ) →
    early d receiver k edges copies 0 ring subject ≡ false

-- it forgets none
abbrev pub HeardOfStays : Type 0
HeardOfStays =
    (d : Source) (receiver k : ℕ) (edges : List Edge) (copies m n ring subject : ℕ) → m ≤ n →
    IsTrue (early d receiver k edges copies m ring subject) → IsTrue (early d receiver k edges copies n ring subject)

-- and in the end it has heard of all
abbrev pub AllAreHeardOfInTheEnd : Type 0
AllAreHeardOfInTheEnd =
    (d : Source) (receiver k : ℕ) (edges : List Edge) (copies ring subject : ℕ) → 1 ≤ copies →
    early d receiver k edges copies (copies * length edges) ring subject ≡ set_of edges ring subject

-- ---- what the high bits of keys say

-- the image of a delivery's key: its high 30 bits
abbrev pub image_of : Source → ℕ → ℕ → Delivery → ℕ
image_of d receiver k x = key_at d (delivery_place receiver k x) / 2 ^ 34

-- how many deliveries have an image up to w
abbrev pub come_by_image : Source → ℕ → ℕ → List Edge → ℕ → ℕ → ℕ
come_by_image d receiver k edges copies w =
    count_by (λ x. nat_le (image_of d receiver k x) w) (all_deliveries edges copies)

-- the least image of an edge's copies, and `last` if none comes
abbrev pub least_image : Source → ℕ → ℕ → List Edge → ℕ → ℕ → ℕ → ℕ → ℕ
least_image d receiver k edges copies last = least_of_copies edges copies last (image_of d receiver k)

-- a delivery of a lesser image comes before
abbrev pub LesserImagesComeBefore : Type 0
LesserImagesComeBefore =
    (d : Source) (receiver k : ℕ) (edges : List Edge) (copies : ℕ) (x y : Delivery) →
    Contains (all_deliveries edges copies) x → image_of d receiver k x < image_of d receiver k y →
    delivery_rank d receiver k edges copies x < delivery_rank d receiver k edges copies y

-- so the deliveries of images up to w are the first that come
abbrev pub LowImagesComeFirst : Type 0
LowImagesComeFirst =
    (d : Source) (receiver k : ℕ) (edges : List Edge) (copies w : ℕ) (x : Delivery) →
    Contains (all_deliveries edges copies) x →
    nat_le (image_of d receiver k x) w
    ≡ nat_lt (delivery_rank d receiver k edges copies x) (come_by_image d receiver k edges copies w)

-- and after them a receiver has heard of exactly those edges whose least image is at most w
abbrev pub LowImagesAreHeardOf : Type 0
LowImagesAreHeardOf =
    (d : Source) (receiver k : ℕ) (edges : List Edge) (copies last w ring subject : ℕ) → w < last →
    early d receiver k edges copies (come_by_image d receiver k edges copies w) ring subject
    ≡ nat_le (least_image d receiver k edges copies last ring subject) w

-- ---- images along an order

-- the image of the delivery at a time: 0 before the first, and `last` past the end
abbrev pub image_at_time : Source → ℕ → ℕ → List Delivery → ℕ → ℕ → ℕ
image_at_time d receiver k order last t = slice_index_or (0 ∷ map (λ x. image_of d receiver k x) order) t last

-- every image is below `last`
abbrev pub AreImagesBelow : Source → ℕ → ℕ → ℕ → Type 0
AreImagesBelow d receiver k last = (x : Delivery) → image_of d receiver k x < last

-- what a function gives of numbers rises, is below `last` before `end`, and is `last` from there on
pub record RisesTo (end last : ℕ) (f : ℕ → ℕ) : Type 0 where
  pub rises : (m n : ℕ) → m ≤ n → f m ≤ f n
  pub below : (n : ℕ) → n < end → f n < last
  pub past : (n : ℕ) → end ≤ n → f n ≡ last

-- at the time of a delivery it is that of the delivery
abbrev pub ImagesStandAtTheirTimes : Type 0
ImagesStandAtTheirTimes =
    (d : Source) (receiver k : ℕ) (edges : List Edge) (copies : ℕ) (order : List Delivery) (last : ℕ) (x : Delivery) →
    IsDeliveryOrder d receiver k edges copies order → Contains (all_deliveries edges copies) x →
    image_at_time d receiver k order last (time_of d receiver k edges copies x) ≡ image_of d receiver k x

-- at a later time it is no lesser one
abbrev pub ImagesRise : Type 0
ImagesRise =
    (d : Source) (receiver k : ℕ) (edges : List Edge) (copies : ℕ) (order : List Delivery) (last : ℕ) →
    IsDeliveryOrder d receiver k edges copies order → AreImagesBelow d receiver k last →
    RisesTo (copies * length edges + 1) last (image_at_time d receiver k order last)

-- so the least image of an edge's copies is the one at the edge's first time
abbrev pub LeastImageIsTheFirst : Type 0
LeastImageIsTheFirst =
    (d : Source) (receiver k : ℕ) (edges : List Edge) (copies : ℕ) (order : List Delivery) (last ring subject : ℕ) →
    IsDeliveryOrder d receiver k edges copies order → AreImagesBelow d receiver k last →
    least_image d receiver k edges copies last ring subject
    ≡ image_at_time d receiver k order last (first_time d receiver k edges copies ring subject)
