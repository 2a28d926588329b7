-- Who is reported and stable in the end, at each receiver alike.
use Rattle.std.proofs.Common.{◌≡◌, ℕ, ◌+◌, ◌-◌, ◌^◌, ◌<◌, ◌≤◌, ◌&&◌, ◌||◌, Bool, true, false, nat_le, nat_lt}
use Rattle.std.proofs.Common.{List, [], ◌∷◌, length, get_or, IsTrue, Option, Some, None, MatchOption, option_map, refl}
use Rattle.std.proofs.Common.{ap, sym, ◌∙◌, arith}
use Rattle.std.specs.List.{All, find, list_any, range_with_len}
use Rattle.std.proofs.Math.Bool.{and-true}
use Rattle.std.proofs.lemmas.Bool.{le-leb, lt-ltb}
use Rattle.std.proofs.lemmas.Bool.Decides.{nat_tests}
use Rattle.std.proofs.lemmas.List.Elements.{All-head, All-tail}
use Rattle.cut_lists.proofs.Firsts.{NonePasses, IsFirst, found_first}
use Rattle.cut_lists.proofs.Maps.{list_any-flat_map, list_any-map}
use Rattle.cut_lists.proofs.Ranges.{list_any_none_passing, list_any_passing}
use Rattle.cut_rings.specs.declared.edge.Edge.{Edge}
use Rattle.cut_rings.specs.Edges.{EdgeSet, is_edge, set_of}
use Rattle.cut_draws.specs.declared.delivery.Delivery.{Delivery}
use Rattle.cut_draws.specs.DeliveryOrder.{all_deliveries}
use Rattle.cut_detector.specs.Counts.{is_reported, is_full, is_stable}
use Rattle.cut_arrivals.specs.blocks.Images.{ImagesAreBelowNever}
use Rattle.cut_arrivals.specs.proposals.Times.{EdgeTimes, ComesAt, low_of, full_time, high_of, members_by, is_settled_by}
use Rattle.cut_arrivals.specs.proposals.Reception.{Reception, IsReception, deliveries_of, proposal_at, image_of, first_times}
use Rattle.cut_arrivals.specs.proposals.Reception.{lows_at}
use Rattle.cut_arrivals.specs.proposals.Reception.{highs_at}
use Rattle.cut_arrivals.proofs.Modes.{reported_from_low, counts_from_full, stable_from_high}
use Rattle.cut_arrivals.proofs.Found.{proposed, proposes_by_times}
use Rattle.cut_arrivals.proofs.FirstTimes.{first_come}
use Rattle.cut_arrivals.proofs.Closes.{settled-is}
use Rattle.cut_arrivals.proofs.ProposalsHeard.{end_of, heard_by, high_places, low_places, place_of, places_at, places_before}
use Rattle.cut_arrivals.proofs.ProposalsHeard.{places_come}
use Rattle.cut_rings.proofs.Observers.{observer_below}

-- a test that each element passes makes no difference
any_passed : {X : Type 0} (p q : X → Bool) (xs : List X) → All (λ x. q x ≡ true) xs → list_any (λ x. p x && q x) xs
    ≡ list_any p xs
any_passed p q [] all = refl
any_passed p q (x ∷ xs) all =
    ap (λ b. (p x && b) || list_any (λ y. p y && q y) xs) (All-head (λ y. q y ≡ true) x xs all)
    ∙ ap (λ b. b || list_any (λ y. p y && q y) xs) (and-true (p x))
    ∙ ap (λ b. p x || b) (any_passed p q xs (All-tail (λ y. q y ≡ true) x xs all))

any_alike : (b : Bool) (n : ℕ) → 1 ≤ n → list_any (λ _. b) (range_with_len 0 n) ≡ b
any_alike true n some = list_any_passing (λ _. true) 0 n 0 (omega arith) (omega (arith, some)) refl
any_alike false n some = list_any_none_passing (λ _. false) 0 n (λ _ _ _ e. cc)

-- some copy of an edge is delivered exactly where the edge is alerted
pub any_delivered : (edges : List Edge) (copies ring s : ℕ) → 1 ≤ copies
    → list_any (λ x. is_edge ring s x.edge) (all_deliveries edges copies) ≡ set_of edges ring s
any_delivered edges copies ring s some =
    search (arith, list_any-flat_map, list_any-map, any_alike)

before_end : (a end : ℕ) → 1 ≤ end → nat_le a (end - 1) ≡ nat_lt a end
before_end a end some = grind (arith, nat_tests)

module _ (x : Reception) (is : IsReception x) (some : 1 ≤ x.copies) (end : ℕ) (time : Delivery → ℕ) (ends : 1 ≤ end)
    (before : All (λ y. time y < end) (deliveries_of x)) where
  abbrev at : EdgeTimes
  at = first_times end time (deliveries_of x)

  abbrev come : ℕ → EdgeSet
  come t ring s = nat_le (at ring s) t

  comes : ComesAt x.layout x.rule end come at
  comes = record {
    comes = λ _ _ _ _ _ _. refl;
    observers = λ ring s below process. observer_below x.layout is.layout ring s (omega (arith, below, is.rings))
        process;
  }

  -- an edge comes exactly where it is alerted
  reaches : (ring s : ℕ) → come (end - 1) ring s ≡ set_of x.edges ring s
  reaches ring s =
      sym (first_come end time (λ y. is_edge ring s y.edge) (deliveries_of x) (end - 1) (omega (arith, ends)))
      ∙ any_passed (λ y. is_edge ring s y.edge) (λ y. nat_le (time y) (end - 1)) (deliveries_of x)
      (λ k d within. let low : time (get_or (deliveries_of x) k d) < end = before k d within
      in le-leb _ _ (omega (arith, low)))
      ∙ any_delivered x.edges x.copies ring s some

  reached : come (end - 1) ≡ set_of x.edges
  reached = λ i ring s. reaches ring s i

  pub ends_come : (ring s : ℕ) → nat_lt (at ring s) end ≡ set_of x.edges ring s
  ends_come ring s = sym (before_end (at ring s) end ends) ∙ reaches ring s

  pub ends_full : (ring s : ℕ) → ring < x.rule.k → s < x.layout.nodes
      → nat_lt (full_time end x.layout x.rule at ring s) end ≡ is_full x.layout x.rule (set_of x.edges) ring s
  ends_full ring s below process =
      sym (before_end (full_time end x.layout x.rule at ring s) end ends)
      ∙ sym (counts_from_full x.layout x.rule end come at comes (end - 1) ring s (omega (arith, ends)) below process)
      ∙ ap (λ (E : EdgeSet). is_full x.layout x.rule E ring s) reached

  pub ends_reported : (s : ℕ) → s < x.layout.nodes → nat_lt (low_of end x.rule at s) end
      ≡ is_reported x.rule (set_of x.edges) s
  ends_reported s process =
      sym (before_end (low_of end x.rule at s) end ends)
      ∙ sym (reported_from_low x.layout x.rule end come at comes (end - 1) s (omega (arith, ends)) process)
      ∙ ap (λ (E : EdgeSet). is_reported x.rule E s) reached

  pub ends_stable : (s : ℕ) → s < x.layout.nodes → nat_lt (high_of end x.layout x.rule at s) end
      ≡ is_stable x.layout x.rule (set_of x.edges) s
  ends_stable s process =
      sym (before_end (high_of end x.layout x.rule at s) end ends)
      ∙ sym (stable_from_high x.layout x.rule end come at comes (end - 1) s (omega (arith, ends)) process)
      ∙ ap (λ (E : EdgeSet). is_stable x.layout x.rule E s) reached

pub images_before : ImagesAreBelowNever → (x : Reception) (last : ℕ) → 2 ^ 30 ≤ last
    → All (λ y. image_of x y < last) (deliveries_of x)
images_before below x last wide = grind arith

pub ends_reported_alike : ImagesAreBelowNever → (x : Reception) (last : ℕ) → IsReception x → 1 ≤ x.copies
    → 2 ^ 30 ≤ last
    → (s : ℕ) → s < x.layout.nodes → nat_lt (lows_at x last s) last ≡ is_reported x.rule (set_of x.edges) s
ends_reported_alike below x last is some wide =
    ends_reported x is some last (image_of x) (omega (arith, wide)) (images_before below x last wide)

pub ends_stable_alike : ImagesAreBelowNever → (x : Reception) (last : ℕ) → IsReception x → 1 ≤ x.copies → 2 ^ 30 ≤ last
    → (s : ℕ) → s < x.layout.nodes → nat_lt (highs_at x last s) last ≡ is_stable x.layout x.rule (set_of x.edges) s
ends_stable_alike below x last is some wide =
    ends_stable x is some last (image_of x) (omega (arith, wide)) (images_before below x last wide)

-- ---- no proposal where none ends stable

some_copy : (x : Reception) (m : ℕ) → 1 ≤ m → m < 1 + length (deliveries_of x) → 1 ≤ x.copies
some_copy x m some below = grind arith

pub silent : (x : Reception) → IsReception x → ((s : ℕ) → s < x.layout.nodes
    → IsTrue (is_stable x.layout x.rule (set_of x.edges) s) → ⊥)
    → proposal_at x ≡ None
silent x is none =
    proposes_by_times x.layout x.rule (length (deliveries_of x)) (heard_by x) (places_at x) (places_come x is)
    ∙ go (find (λ t. is_settled_by x.layout.nodes (low_places x) (high_places x) t)
    (range_with_len 1 (length (deliveries_of x))))
    (found_first (λ t. is_settled_by x.layout.nodes (low_places x) (high_places x) t) 1 (length (deliveries_of x)))
  where
    go : (q : Option ℕ)
        → MatchOption q (NonePasses (λ t. is_settled_by x.layout.nodes (low_places x) (high_places x) t) 1
        (length (deliveries_of x)))
        (IsFirst (λ t. is_settled_by x.layout.nodes (low_places x) (high_places x) t) 1 (length (deliveries_of x)))
        → option_map (λ t. proposed (members_by x.layout.nodes (high_places x) t) t) q ≡ None
    go None unsettled = refl
    go (Some m) first = absurd (
        let settled = settled-is x.layout.nodes (low_places x) (high_places x) m first.passes in
        let s = settled.some in
        let below : m < 1 + length (deliveries_of x) = first.below in
        let copies : 1 ≤ x.copies = some_copy x m first.from below in
        none s.0 s.1 (sym (ends_stable x is copies (end_of x) (place_of x) (omega arith) (places_before x) s.0 s.1)
        ∙ lt-ltb (high_places x s.0) (end_of x) (omega (arith, below, s.2))))
