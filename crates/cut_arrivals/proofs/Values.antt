-- Lows and highs as ranks of the values that are listed.
use Rattle.std.proofs.Common.{◌≡◌, ℕ, ◌^◌, ◌<◌, ◌≤◌, ◌&&◌, Bool, true, false, cond, nat_le, nat_lt, List, map, filter}
use Rattle.std.proofs.Common.{min, max, refl, ap, sym, ◌∙◌, arith}
use Rattle.std.specs.List.{All, Contains, count_by, range_with_len}
use Rattle.std.specs.List.Sorted.{IsPermutation}
use Rattle.std.proofs.lemmas.Bool.{both_ways, lt-leb}
use Rattle.std.proofs.lemmas.List.Sorted.{sum_by-IsPermutation}
use Rattle.cut_lists.proofs.Maps.{count_by-map}
use Rattle.cut_lists.proofs.Ranges.{count_by_agree}
use Rattle.cut_rings.specs.Layout.{observer_of}
use Rattle.cut_rings.specs.Edges.{is_edge, set_of}
use Rattle.cut_detector.specs.Counts.{is_gained, is_full, is_reported}
use Rattle.cut_arrivals.specs.blocks.Images.{ImagesAreBelowNever}
use Rattle.cut_arrivals.specs.ranks.Ranks.{IsRank}
use Rattle.cut_arrivals.specs.proposals.Times.{times_to}
unfoldable use Rattle.cut_arrivals.specs.proposals.Times.{low_of, full_time, high_of}
use Rattle.cut_arrivals.specs.proposals.Candidates.{AreCandidates}
use Rattle.cut_arrivals.specs.proposals.Reception.{Reception, IsReception, deliveries_of, image_of, images_at, lows_at, highs_at}
use Rattle.cut_arrivals.specs.proposals.Values.{ArePresent, AreFullTimes}
use Rattle.cut_arrivals.proofs.RankLemmas.{rank_is, rank_of_alike}
use Rattle.cut_arrivals.proofs.FirstTimes.{count_filter}
use Rattle.cut_arrivals.proofs.Ends.{ends_come, ends_full, ends_reported_alike}
use Rattle.cut_rings.proofs.Observers.{observer_below}

-- ---- counts of the rings that come

absorbed : (p q : Bool) → (p ≡ false → q ≡ false) → p && q ≡ q
absorbed true q none = refl
absorbed false q none = sym (none refl)

-- what doesn't come by a time may be left out, and the rest be listed in any order
come_alike : (f : ℕ → ℕ) (p : ℕ → Bool) (k t : ℕ) (rings : List ℕ) → IsPermutation (filter p (range_with_len 0 k)) rings
    → ((ring : ℕ) → ring < k → p ring ≡ false → t < f ring)
    → count_by (λ y. nat_le y t) (map f rings) ≡ count_by (λ y. nat_le y t) (map f (range_with_len 0 k))
come_alike f p k t rings moved later =
    count_by-map (λ y. nat_le y t) f rings
    ∙ sum_by-IsPermutation (λ ring. cond (nat_le (f ring) t) 1 0) (filter p (range_with_len 0 k)) rings moved
    ∙ count_filter (λ ring. nat_le (f ring) t) p (range_with_len 0 k)
    ∙ count_by_agree (λ ring. p ring && nat_le (f ring) t) (λ ring. nat_le (f ring) t) 0 k
    (record {
      same = λ ring _ below. absorbed (p ring) (nat_le (f ring) t)
          (λ none. lt-leb (f ring) t (later ring (omega (arith, below)) none));
    })
    ∙ sym (count_by-map (λ y. nat_le y t) f (range_with_len 0 k))

-- ---- images

images_within : (x : Reception) (last ring s : ℕ) → images_at x last ring s ≤ last
images_within x last ring s = (rank_is last 1 (map (image_of x)
    (filter (λ y. is_edge ring s y.edge) (deliveries_of x)))).within

others_late : ImagesAreBelowNever → (x : Reception) (last ring s : ℕ) → IsReception x → 1 ≤ x.copies → 2 ^ 30 ≤ last
    → set_of x.edges ring s ≡ false → last ≤ images_at x last ring s
others_late below x last ring s is some wide none =
    grind (arith, ends_come x is some last (image_of x))

pub others_never_come : ImagesAreBelowNever → (x : Reception) (last ring s : ℕ) → IsReception x → 1 ≤ x.copies → 2 ^ 30
    ≤ last
    → set_of x.edges ring s ≡ false → images_at x last ring s ≡ last
others_never_come below x last ring s is some wide none =
    omega (arith, others_late below x last ring s is some wide none, images_within x last ring s)

-- ---- full times

ungained : (i a b : Bool) (at low its last : ℕ) → at ≤ last → nat_lt low last ≡ a → nat_lt its last ≡ b → i && a && b
    ≡ false
    → cond i (min at (max low its)) at ≡ at
ungained false a b at low its last within one other none = refl
ungained true false b at low its last within one other none =
    grind arith
ungained true true false at low its last within one other none =
    grind arith
ungained true true true at low its last within one other none = absurd (both_ways true none refl)

pub ungained_by_image : ImagesAreBelowNever → (x : Reception) (last ring s : ℕ) → IsReception x → 1 ≤ x.copies → 2 ^ 30
    ≤ last
    → ring < x.rule.k → s < x.layout.nodes → is_gained x.layout x.rule (set_of x.edges) ring s ≡ false
    → full_time last x.layout x.rule (images_at x last) ring s ≡ images_at x last ring s
unfolding full_time
ungained_by_image below x last ring s is some wide in_rule process none =
    let o : ℕ = observer_of x.layout ring s in
    let observer : o < x.layout.nodes = observer_below x.layout is.layout ring s (omega (arith, in_rule, is.rings))
    process in
    ungained x.rule.implicit (is_reported x.rule (set_of x.edges) s) (is_reported x.rule (set_of x.edges) o)
    (images_at x last ring s) (lows_at x last s) (lows_at x last o) last (images_within x last ring s)
    (ends_reported_alike below x last is some wide s process) (ends_reported_alike below x last is some wide o observer)
    none

pub gained_by_lows : (x : Reception) (last ring s : ℕ) → is_gained x.layout x.rule (set_of x.edges) ring s ≡ true
    → full_time last x.layout x.rule (images_at x last) ring s
    ≡ min (images_at x last ring s) (max (lows_at x last s) (lows_at x last (observer_of x.layout ring s)))
unfolding full_time
gained_by_lows x last ring s is = grind arith

full_late : ImagesAreBelowNever → (x : Reception) (last ring s : ℕ) → IsReception x → 1 ≤ x.copies → 2 ^ 30 ≤ last
    → ring < x.rule.k → s < x.layout.nodes → is_full x.layout x.rule (set_of x.edges) ring s ≡ false
    → last ≤ full_time last x.layout x.rule (images_at x last) ring s
full_late below x last ring s is some wide in_rule process none =
    grind (arith, ends_full x is some last (image_of x))

-- ---- ranks

pub low_is_rank : ImagesAreBelowNever → (x : Reception) (last s : ℕ) (values : List ℕ) (v : ℕ) → IsReception x → 1
    ≤ x.copies → 2 ^ 30 ≤ last
    → s < x.layout.nodes → ArePresent x last s values → IsRank last x.rule.l values v → v ≡ lows_at x last s
unfolding low_of
low_is_rank below x last s values v is some wide process present rank =
    rank_of_alike last x.rule.l values (times_to x.rule.k (images_at x last) s) v
    (λ t low. ap (count_by (λ y. nat_le y t)) present.values_are
    ∙ come_alike (λ ring. images_at x last ring s) (λ ring. set_of x.edges ring s) x.rule.k t present.rings
    present.moved
    (λ ring _ none. omega (arith, low, others_late below x last ring s is some wide none)))
    rank

pub high_is_rank : ImagesAreBelowNever → (x : Reception) (last s : ℕ) (values : List ℕ) (v : ℕ) → IsReception x → 1
    ≤ x.copies → 2 ^ 30 ≤ last
    → s < x.layout.nodes → AreFullTimes x last s values → IsRank last x.rule.h values v → v ≡ highs_at x last s
unfolding high_of
high_is_rank below x last s values v is some wide process full rank =
    rank_of_alike last x.rule.h values (times_to x.rule.k (full_time last x.layout x.rule (images_at x last)) s) v
    (λ t low. ap (count_by (λ y. nat_le y t)) full.values_are
    ∙ come_alike (λ ring. full_time last x.layout x.rule (images_at x last) ring s)
    (λ ring. is_full x.layout x.rule (set_of x.edges) ring s) x.rule.k t full.rings full.moved
    (λ ring in_rule none. omega (arith, low, full_late below x last ring s is some wide in_rule process none)))
    rank

-- ---- candidates

pub reported_are_candidates : ImagesAreBelowNever → (x : Reception) (last : ℕ) (candidates : List ℕ) → IsReception x
    → 1 ≤ x.copies
    → 2 ^ 30 ≤ last
    → All (λ s. s < x.layout.nodes) candidates
    → ((s : ℕ) → s < x.layout.nodes → is_reported x.rule (set_of x.edges) s ≡ true → Contains candidates s)
    → AreCandidates x.layout.nodes last (lows_at x last) (highs_at x last) candidates (map (lows_at x last) candidates)
    (map (highs_at x last) candidates)
reported_are_candidates below x last candidates is some wide processes each =
    grind (arith, ends_reported_alike below x last is some wide)
