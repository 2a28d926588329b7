-- The place of a proposal, by the images of the deliveries.
use Rattle.std.proofs.Common.{◌≡◌, ℕ, ◌+◌, ◌^◌, ◌<◌, ◌≤◌, ◌==◌, ◌||◌, true, false, cond, nat_le, nat_lt, List}
use Rattle.std.proofs.Common.{length, map, filter, get_or, Some, None, refl, ap, sym, ◌∙◌, arith}
use Rattle.std.specs.List.{Contains, count_by, find, range_with_len}
use Rattle.std.specs.Ordering.{is_lt}
use Rattle.std.proofs.lemmas.Bool.{both_ways, eq-eqb, le-leb, leb-true}
use Rattle.std.proofs.lemmas.List.Elements.{All-filter, All-map, Contains-get_or}
use Rattle.cut_lists.proofs.Counts.{counts-into}
use Rattle.cut_lists.proofs.Firsts.{IsFirst, found_first}
use Rattle.cut_lists.proofs.Parts.{count_less}
use Rattle.cut_rings.specs.Edges.{is_edge}
use Rattle.cut_draws.specs.declared.delivery.Delivery.{Delivery}
use Rattle.cut_arrivals.specs.blocks.Images.{ImagesAreBelowNever}
use Rattle.cut_arrivals.specs.proposals.Times.{members_by, is_settled_by}
use Rattle.cut_arrivals.specs.proposals.Candidates.{IsClosed}
use Rattle.cut_arrivals.specs.proposals.Reception.{Reception, IsReception, deliveries_of, proposal_at, image_of, lows_at}
use Rattle.cut_arrivals.specs.proposals.Reception.{highs_at}
use Rattle.cut_arrivals.proofs.RankLemmas.{rank_keeps}
use Rattle.cut_arrivals.proofs.ProposalsKept.{high_keeps}
use Rattle.cut_arrivals.proofs.Found.{proposed, proposes_by_times}
use Rattle.cut_arrivals.proofs.Closes.{closes, first_is_high, first_settled}
use Rattle.cut_arrivals.proofs.ProposalsHeard.{closed_places, compare_at, end_of, heard_by, high_places}
use Rattle.cut_arrivals.proofs.ProposalsHeard.{highs_same, image_first, low_places, place_of, places_are_times, places_at}
use Rattle.cut_arrivals.proofs.ProposalsHeard.{places_come, to_image, to_image_is, to_image_rises}

-- a time at which some delivery comes
abbrev IsPlace : Reception → ℕ → Type 0
IsPlace x t = (y : Delivery) × Contains (deliveries_of x) y × (place_of x y ≡ t)

edge_keeps : (x : Reception) (ring s : ℕ) → places_at x ring s < end_of x → IsPlace x (places_at x ring s)
edge_keeps x ring s less =
    rank_keeps (IsPlace x) (end_of x) 1 (map (place_of x) (filter (λ y. is_edge ring s y.edge) (deliveries_of x)))
    (omega arith)
    (All-map (λ t. t < end_of x → IsPlace x t) (place_of x) (filter (λ y. is_edge ring s y.edge) (deliveries_of x))
    (All-filter (λ y. is_edge ring s y.edge) (λ y. place_of x y < end_of x → IsPlace x (place_of x y)) (deliveries_of x)
    (λ k d within _. (get_or (deliveries_of x) k d, Contains-get_or (deliveries_of x) k d within, refl))))
    less

-- the first settled time is the place of some delivery
first_is_place : (x : Reception) → IsReception x → (m : ℕ)
    → IsFirst (λ t. is_settled_by x.layout.nodes (low_places x) (high_places x) t) 1 (length (deliveries_of x)) m
    → IsPlace x m
first_is_place x is m first =
    let at = first_is_high x.layout.nodes (end_of x) (length (deliveries_of x)) (low_places x) (high_places x)
    (places_are_times x is) m first in
    let below : m < 1 + length (deliveries_of x) = first.below in
    let low : high_places x at.0 < end_of x = omega (arith, below, at.2) in
    let found : IsPlace x (high_places x at.0) = high_keeps (IsPlace x) (end_of x) x.layout x.rule (places_at x) is.rule
    (edge_keeps x) at.0 low in
    (found.0, found.1, found.2 ∙ at.2)

-- what comes before a delivery has no greater image
sooner_lesser : (x : Reception) (y z : Delivery) → is_lt (compare_at x z y) ≡ true → image_of x z ≤ image_of x y
sooner_lesser x y z sooner = grind arith

image_or_sooner : (x : Reception) (y : Delivery) (time : ℕ) → image_of x y ≡ time → (z : Delivery)
    → nat_le (image_of x z) time || false ≡ true → is_lt (compare_at x z y) || (image_of x z == time) ≡ true
image_or_sooner x y time at z e = grind (arith, image_first, leb-true, eq-eqb)

-- the place of the only delivery of an image is how many images are up to it
place_counted : (x : Reception) (y : Delivery) (time : ℕ) → Contains (deliveries_of x) y → image_of x y ≡ time
    → count_by (λ z. image_of x z == time) (deliveries_of x) ≤ 1
    → place_of x y ≡ count_by (λ z. nat_le (image_of x z) time) (deliveries_of x)
place_counted x y time at is alone =
    let all : List Delivery = deliveries_of x in
    let upper : count_by (λ z. nat_le (image_of x z) time) all + count_by (λ _. false) all
    ≤ count_by (λ z. is_lt (compare_at x z y)) all + count_by (λ z. image_of x z == time) all =
    search (arith, counts-into, both_ways, image_or_sooner) in
    grind (arith, count_less, sooner_lesser, le-leb)

pub closes_at_place : ImagesAreBelowNever → (x : Reception) (last : ℕ) (reported_at stable_at : List ℕ) (first time : ℕ)
    → IsReception x → 2 ^ 30 ≤ last
    → IsClosed x.layout.nodes last (lows_at x last) (highs_at x last) reported_at stable_at first time
    → count_by (λ y. image_of x y == time) (deliveries_of x) ≤ 1
    → proposal_at x ≡ cond (nat_lt time last)
    (Some (proposed (members_by x.layout.nodes (highs_at x last) time)
    (count_by (λ y. nat_le (image_of x y) time) (deliveries_of x)))) None
closes_at_place below x last reported_at stable_at first time is wide closed alone =
    let n : ℕ = x.layout.nodes in
    let count : ℕ = length (deliveries_of x) in
    let place : ℕ = count_by (λ y. nat_le (image_of x y) time) (deliveries_of x) in
    let tau : ℕ → ℕ = to_image x last in
    let rising = to_image_rises x last below wide in
    let times = places_are_times x is in
    let moved = closed_places x last reported_at stable_at first time below is wide closed in
    proposes_by_times x.layout x.rule count (heard_by x) (places_at x) (places_come x is)
    ∙ closes n count last (low_places x) (high_places x) tau reported_at stable_at first time rising times moved
    proposed place
    (λ m found ms.
    let at = first_is_place x is m found in
    let stands_for = first_settled n count last (low_places x) (high_places x) tau reported_at stable_at first time
    rising times
    moved m found in
    let image : image_of x at.0 ≡ time = sym (to_image_is x last below wide at.0 at.1) ∙ ap tau at.2 ∙ stands_for.1 in
    ap (proposed ms) (sym at.2 ∙ place_counted x at.0 time at.1 image alone))
    (find (λ t. is_settled_by n (low_places x) (high_places x) t) (range_with_len 1 count))
    (found_first (λ t. is_settled_by n (low_places x) (high_places x) t) 1 count)
    ∙ ap (λ (f : ℕ → ℕ). cond (nat_lt time last) (Some (proposed (members_by n f time) place)) None)
    (sym (highs_same x last below is wide))
