-- What a receiver proposes, by the images of its deliveries.
use Rattle.std.proofs.Common.{◌≡◌, inl, inr, ℕ, ◌+◌, ◌-◌, ◌^◌, ◌<◌, ◌≤◌, cond, nat_lt, List, map}
use Rattle.std.proofs.Common.{filter, length, get_or, Option, Some, None, option_map, refl, ap, sym, ◌∙◌, arith}
use Rattle.std.specs.List.{All, Contains, find, range_with_len}
use Rattle.std.specs.declared.cmp.Ordering.{Ordering}
use Rattle.std.specs.declared.cmp.Ordering.TheVariants.{Less}
use Rattle.std.specs.Cmp.{IsTotalOrder}
use Rattle.std.proofs.lemmas.Bool.{cases_lt}
use Rattle.std.proofs.lemmas.Cmp.{nat_cmp_total, on_total, then_total}
use Rattle.std.proofs.lemmas.List.Elements.{All-map, Contains-get_or}
use Rattle.cut_lists.proofs.Ranks.{rank-below, rank-less}
use Rattle.cut_rings.specs.Edges.{EdgeSet, is_edge, edge_number}
use Rattle.cut_draws.specs.declared.delivery.Delivery.{Delivery}
use Rattle.cut_draws.specs.Source.{key_at}
use Rattle.cut_draws.specs.DeliveryOrder.{compare_deliveries, delivery_place, delivery_rank, early}
use Rattle.cut_detector.specs.declared.proposal.Proposal.{Proposal}
use Rattle.cut_arrivals.specs.blocks.Images.{ImagesAreBelowNever}
use Rattle.cut_arrivals.specs.proposals.Times.{EdgeTimes, ComesAt, low_of, high_of, members_by, is_settled_by}
use Rattle.cut_arrivals.specs.proposals.Rising.{IsRising, moved}
use Rattle.cut_arrivals.specs.proposals.Candidates.{AreTimes, IsClosed}
use Rattle.cut_arrivals.specs.proposals.Reception.{Reception, IsReception, deliveries_of, proposal_at, image_of, first_times}
use Rattle.cut_arrivals.specs.proposals.Reception.{images_at}
use Rattle.cut_arrivals.specs.proposals.Reception.{lows_at, highs_at}
use Rattle.cut_arrivals.proofs.RankLemmas.{rank_no_less}
use Rattle.cut_arrivals.proofs.Modes.{high_within, low_before_high, low_no_less}
use Rattle.cut_arrivals.proofs.Found.{proposed, proposes_by_times}
use Rattle.cut_arrivals.proofs.Rises.{lows_rise, highs_rise}
use Rattle.cut_arrivals.proofs.Closes.{closes_as_settled}
use Rattle.cut_arrivals.proofs.Changes.{LieAlike, change, change_is, change_rises}
use Rattle.cut_arrivals.proofs.FirstTimes.{first_come, first_moves}
use Rattle.cut_rings.proofs.Observers.{observer_below}

-- ---- the order of deliveries

-- how two deliveries compare
abbrev pub compare_at : Reception → Delivery → Delivery → Ordering
compare_at x = compare_deliveries x.source x.receiver x.rule.k

pub compare_total : (x : Reception) → IsTotalOrder (compare_at x)
compare_total x =
    then_total (on_total (λ y. key_at x.source (delivery_place x.receiver x.rule.k y)) nat_cmp_total)
    (then_total (on_total (λ y. edge_number x.rule.k y.edge) nat_cmp_total) (on_total (λ y. y.copy) nat_cmp_total))

-- the place of a delivery, from 1 on
abbrev pub place_of : Reception → Delivery → ℕ
place_of x y = delivery_rank x.source x.receiver x.rule.k x.edges x.copies y + 1

abbrev pub end_of : Reception → ℕ
end_of x = length (deliveries_of x) + 1

-- the lesser image comes first
pub image_first : (x : Reception) (y z : Delivery) → image_of x y < image_of x z → compare_at x y z ≡ Less
image_first x y z lesser =
    grind arith

pub places_before : (x : Reception) → All (λ y. place_of x y < end_of x) (deliveries_of x)
places_before x = λ k d within.
    let rank : delivery_rank x.source x.receiver x.rule.k x.edges x.copies (get_or (deliveries_of x) k d)
    < length (deliveries_of x) =
    rank-below (compare_total x) (deliveries_of x) (get_or (deliveries_of x) k d)
    (Contains-get_or (deliveries_of x) k d within) in
    omega (arith, rank)

lie_alike : (x : Reception) (last : ℕ) → ImagesAreBelowNever → 2 ^ 30 ≤ last
    → LieAlike (deliveries_of x) (place_of x) (image_of x) (end_of x) last
lie_alike x last below wide = record {
  some = omega (arith, wide);
  before = places_before x;
  below = λ y. let few : image_of x y ≤ 2 ^ 30 - 1 = below x.source (delivery_place x.receiver x.rule.k y)
      in omega (arith, few, wide);
  alike = λ y z at other come. elim (cases_lt (image_of x y) (image_of x z)) [
    | inr ordered ↦ ordered
    | inl lesser ↦ grind (arith, rank-less (compare_total x) (deliveries_of x) y z at (image_first x y z lesser))
  ];
}

-- the change from places to images
abbrev pub to_image : Reception → ℕ → ℕ → ℕ
to_image x last = change (deliveries_of x) (place_of x) (image_of x) (end_of x) last

pub to_image_rises : (x : Reception) (last : ℕ) → ImagesAreBelowNever → 2 ^ 30 ≤ last
    → IsRising (end_of x) last (to_image x last)
to_image_rises x last below wide =
    change_rises (deliveries_of x) (place_of x) (image_of x) (end_of x) last (lie_alike x last below wide)

pub to_image_is : (x : Reception) (last : ℕ) → ImagesAreBelowNever → 2 ^ 30 ≤ last → (y : Delivery)
    → Contains (deliveries_of x) y
    → to_image x last (place_of x y) ≡ image_of x y
to_image_is x last below wide = change_is (deliveries_of x) (place_of x) (image_of x) (end_of x) last
    (lie_alike x last below wide)

-- ---- places of edges

abbrev pub places_at : Reception → EdgeTimes
places_at x = first_times (end_of x) (place_of x) (deliveries_of x)

abbrev pub heard_by : Reception → ℕ → EdgeSet
heard_by x n = early x.source x.receiver x.rule.k x.edges x.copies n

pub places_come : (x : Reception) → IsReception x → ComesAt x.layout x.rule (end_of x) (heard_by x) (places_at x)
places_come x is = grind (arith, first_come, observer_below)

abbrev pub low_places : Reception → ℕ → ℕ
low_places x = low_of (end_of x) x.rule (places_at x)

abbrev pub high_places : Reception → ℕ → ℕ
high_places x = high_of (end_of x) x.layout x.rule (places_at x)

pub places_are_times : (x : Reception) → IsReception x → AreTimes x.layout.nodes (end_of x) (low_places x)
    (high_places x)
places_are_times x is = record {
  some = λ s _. low_no_less (end_of x) x.rule (places_at x) 1 is.rule (omega arith)
      (λ ring p. rank_no_less (end_of x) 1 (map (place_of x) (filter (λ y. is_edge ring p y.edge) (deliveries_of x))) 1
      (omega arith) (omega arith)
      (All-map (λ t. 1 ≤ t) (place_of x) (filter (λ y. is_edge ring p y.edge) (deliveries_of x))
      (λ _ _ _. omega arith))) s;
  ordered = λ s process. low_before_high x.layout x.rule (end_of x) (heard_by x) (places_at x) (places_come x is)
      is.rule s process;
  within = λ s _. high_within (end_of x) x.layout x.rule (places_at x) s;
}

-- ---- images of edges are the changed places

images_same : (x : Reception) (last : ℕ) → ImagesAreBelowNever → 2 ^ 30 ≤ last → images_at x last
    ≡ moved (to_image x last) (places_at x)
images_same x last below wide = λ i ring s. each ring s i
  where
    each : (ring s : ℕ) → images_at x last ring s ≡ to_image x last (places_at x ring s)
    each ring s =
        first_moves (end_of x) last (to_image x last) (to_image_rises x last below wide) (place_of x) (image_of x)
        (λ y. is_edge ring s y.edge) (deliveries_of x)
        (λ k d within. sym (to_image_is x last below wide (get_or (deliveries_of x) k d)
        (Contains-get_or (deliveries_of x) k d within)))

pub lows_same : (x : Reception) (last : ℕ) → ImagesAreBelowNever → IsReception x → 2 ^ 30 ≤ last
    → lows_at x last ≡ (λ s. to_image x last (low_places x s))
lows_same x last below is wide = λ i s. each s i
  where
    each : (s : ℕ) → lows_at x last s ≡ to_image x last (low_places x s)
    each s =
        ap (λ (m : EdgeTimes). low_of last x.rule m s) (images_same x last below wide)
        ∙ lows_rise (end_of x) last x.rule (places_at x) (to_image x last) (to_image_rises x last below wide) is.rule s

pub highs_same : (x : Reception) (last : ℕ) → ImagesAreBelowNever → IsReception x → 2 ^ 30 ≤ last
    → highs_at x last ≡ (λ s. to_image x last (high_places x s))
highs_same x last below is wide = λ i s. each s i
  where
    each : (s : ℕ) → highs_at x last s ≡ to_image x last (high_places x s)
    each s =
        ap (λ (m : EdgeTimes). high_of last x.layout x.rule m s) (images_same x last below wide)
        ∙ highs_rise (end_of x) last x.layout x.rule (places_at x) (to_image x last) (to_image_rises x last below wide)
        is.rule s

-- a closing of images is one of changed places
pub closed_places : (x : Reception) (last : ℕ) (reported_at stable_at : List ℕ) (first time : ℕ) → ImagesAreBelowNever
    → IsReception x
    → 2 ^ 30 ≤ last
    → IsClosed x.layout.nodes last (lows_at x last) (highs_at x last) reported_at stable_at first time
    → IsClosed x.layout.nodes last (λ s. to_image x last (low_places x s)) (λ s. to_image x last (high_places x s))
    reported_at
    stable_at first time
closed_places x last reported_at stable_at first time below is wide closed =
    grind (arith, lows_same, highs_same)

-- ---- the proposal

members_of : (n : ℕ) (high : ℕ → ℕ) (q : Option ℕ)
    → option_map (λ (p : Proposal). p.members) (option_map (λ t. proposed (members_by n high t) t) q)
    ≡ option_map (λ t. members_by n high t) q
members_of n high None = refl
members_of n high (Some t) = refl

pub closes_as_proposed : ImagesAreBelowNever → (x : Reception) (last : ℕ) (reported_at stable_at : List ℕ)
    (first time : ℕ)
    → IsReception x → 2 ^ 30 ≤ last
    → IsClosed x.layout.nodes last (lows_at x last) (highs_at x last) reported_at stable_at first time
    → option_map (λ p. p.members) (proposal_at x)
    ≡ cond (nat_lt time last) (Some (members_by x.layout.nodes (highs_at x last) time)) None
closes_as_proposed below x last reported_at stable_at first time is wide closed =
    let n : ℕ = x.layout.nodes in
    let count : ℕ = length (deliveries_of x) in
    ap (option_map (λ (p : Proposal). p.members)) (proposes_by_times x.layout x.rule count (heard_by x) (places_at x)
    (places_come x is))
    ∙ members_of n (high_places x) (find (λ t. is_settled_by n (low_places x) (high_places x) t)
    (range_with_len 1 count))
    ∙ closes_as_settled n count last (low_places x) (high_places x) (to_image x last) reported_at stable_at first time
    (to_image_rises x last below wide) (places_are_times x is)
    (closed_places x last reported_at stable_at first time below is wide closed)
    ∙ ap (λ (f : ℕ → ℕ). cond (nat_lt time last) (Some (members_by n f time)) None)
    (sym (highs_same x last below is wide))
