-- At which place a lane's receiver proposes.
use Rattle.std.proofs.Common.{◌≡◌, ◌∙◌, ℕ, ◌+◌, ◌*◌, ◌<◌, ◌≤◌, ◌==◌, false, not, List, length, slice_index}
use Rattle.std.proofs.Common.{IfSome, ap, sym, arith}
use Rattle.std.specs.List.{count_by}
use Rattle.std.proofs.lemmas.Bool.Decides.{nat_tests}
use Rattle.cut_draws.specs.declared.delivery.Delivery.{Delivery}
use Rattle.cut_arrivals.specs.blocks.Images.{never, image_at, place_in, row_of}
use Rattle.cut_arrivals.specs.lanes.Lanes.{lane}
use Rattle.cut_arrivals.specs.proposals.Laws.{ClosesAtPlace}
use Rattle.cut_arrivals.specs.proposals.Reception.{Reception, deliveries_of, image_of, proposal_at}
use Rattle.cut_arrivals.specs.declared.receivers.receivers.Receivers as declared
use Rattle.cut_arrivals.specs.declared.receivers.places.Places as counted
use Rattle.cut_arrivals.specs.declared.receivers.deliveries.Kept.{Kept}
use Rattle.cut_arrivals.specs.declared.receivers.trial.Trial.{Trial}
use Rattle.cut_arrivals.specs.receivers.Received.{reception_of, HasReceived, HasKept}
use Rattle.cut_arrivals.specs.receivers.inside.Places.{image_for}
use Rattle.cut_arrivals.specs.receivers.LaneVerdicts.{has_bit}
use Rattle.cut_arrivals.specs.receivers.Places.{HasCountedPlaces}
use Rattle.cut_arrivals.proofs.Bounds.{high_within}
use Rattle.cut_arrivals.proofs.ReceiversPlaced.{lane_long}
use Rattle.cut_arrivals.proofs.ReceiversJudged.{closed, certain_of, high_at}
use Rattle.cut_arrivals.proofs.Insertions.{length_lane}

-- no proposal time is after `never`
pub time_within : (x : Reception) (subjects : List ℕ) (i : ℕ) (f : declared.Receivers) → HasReceived x subjects i f
    → slice_index f.proposal_time.time i ≤ never
time_within x subjects i f h =
    let many : length (lane i f.reported_at.items) ≡ length subjects = length_lane i f.reported_at.items
    ∙ lane_long i _ subjects f.reported_at.items h.reported_at in
    let ended : (u : ℕ) → u < length (lane i f.reported_at.items) → slice_index (lane i f.stable_at.items) u ≤ never =
    grind (arith, high_at x subjects i f h, high_within x) in
    h.proposal_time.least never (record { begun = λ u low _. ended u low; before = λ u low _. ended u low })

at_most_one : (n : ℕ) → not (n == 1) ≡ false → n ≤ 1
at_most_one n is = grind (arith, nat_tests, is)

pub placed : ClosesAtPlace → (x : Reception) (subjects : List ℕ) (i : ℕ) (f : declared.Receivers)
    (p : counted.Places) → HasReceived x subjects i f
    → has_bit f.proposal_time.doubt i ≡ false → HasCountedPlaces x (slice_index f.proposal_time.time i) i p
    → has_bit p.doubt i
    ≡ false
    → IfSome (proposal_at x) (λ q. q.at ≡ slice_index p.until i)
placed law x subjects i f p h clear counts apart =
    let t : ℕ = slice_index f.proposal_time.time i in
    let ys : List Delivery = deliveries_of x in
    let one : count_by (λ y. image_of x y == t) ys ≤ 1 =
    at_most_one (count_by (λ y. image_of x y == t) ys) (sym counts.doubt ∙ apart) in
    let proposed = law x never (lane i f.reported_at.items) (lane i f.stable_at.items)
    (slice_index f.proposal_time.first i) t h.reception (omega arith)
    (closed x subjects i f h (certain_of x subjects i f h clear)) one in
    grind arith

-- in lane i stand the images of the blocks that are known, as they do of what was heard
pub knows_images : (t : Trial) (receivers blocks bs : List ℕ) (ks : List (List (List ℕ))) (kept : Kept) (i : ℕ)
    (f : declared.Receivers) → HasKept (reception_of t (slice_index receivers i)) i f
    → bs ≡ f.kept_blocks.items → ks ≡ f.kept.items
    → ((b : ℕ) → b < kept.known → slice_index blocks b ≡ slice_index bs b)
    → (0 < kept.known → (kept.images.now ≡ ks) × (kept.blocks ≡ length bs)) → kept.known ≤ kept.blocks
    → (c b q : ℕ) → c < t.copies → b < kept.known → q < 8
    → image_for kept.images.now (c * kept.blocks + b) q i
    ≡ image_at t.blocks.now (place_in (row_of c (slice_index receivers i) + slice_index blocks b) q)
knows_images t receivers blocks bs ks kept i f has bs_are ks_are same are few_known c b q few inside eighth =
    let is = are (omega (arith, inside)) in
    let many : kept.blocks ≡ length f.kept_blocks.items = is.1 ∙ ap (λ (xs : List ℕ). length xs) bs_are in
    ap (λ (vs : List (List (List ℕ))). image_for vs (c * kept.blocks + b) q i) (is.0 ∙ ks_are)
    ∙ ap (λ (n : ℕ). image_for f.kept.items (c * n + b) q i) many
    ∙ has c b q few (omega (arith, inside, few_known, many)) eighth
    ∙ ap (λ (n : ℕ). image_at t.blocks.now (place_in (row_of c (slice_index receivers i) + n) q))
    (sym (same b inside ∙ ap (λ (xs : List ℕ). slice_index xs b) bs_are))
