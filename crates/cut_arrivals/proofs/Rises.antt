-- Ranks, lows and highs under weakly rising changes.
use Rattle.std.proofs.Common.{◌≡◌, inl, inr, ℕ, ◌-◌, ◌<◌, ◌≤◌, nat_le, List, map}
use Rattle.std.proofs.Common.{refl, ap, ◌∙◌, arith}
use Rattle.std.specs.List.{count_by}
use Rattle.std.proofs.lemmas.Bool.{both_ways, cases_lt, le-leb, leb-true, lt-leb}
use Rattle.cut_lists.proofs.Maps.{count_by-map, map-map}
use Rattle.cut_lists.proofs.Ranks.{count_by_none}
use Rattle.cut_rings.specs.Layout.{Layout}
use Rattle.cut_detector.specs.Rule.{Rule}
use Rattle.cut_arrivals.specs.ranks.Ranks.{rank_at, has_rank, IsRank}
use Rattle.cut_lists.proofs.Parts.{count_le}
use Rattle.cut_arrivals.specs.proposals.Times.{EdgeTimes, times_to, IsRule}
unfoldable use Rattle.cut_arrivals.specs.proposals.Times.{low_of, full_time, high_of}
use Rattle.cut_arrivals.specs.proposals.Rising.{IsRising, moved}
use Rattle.cut_arrivals.proofs.Tests.{both_imply}
use Rattle.cut_arrivals.proofs.RankLemmas.{rank_is}
use Rattle.cut_arrivals.proofs.RanksRanks.{one_rank}

-- fewer than r have come by what is before the r-th
too_few : (end last r : ℕ) (xs : List ℕ) (tau : ℕ → ℕ) → IsRising end last tau → 1 ≤ r → (x u : ℕ) → IsRank end r xs x
    → u < tau x → r ≤ count_by (λ y. nat_le (tau y) u) xs → ⊥
too_few end last r xs tau rising some x u is after many =
    grind (arith, cases_lt 0 x, count_le, lt-leb x (x - 1), both_ways (has_rank r xs (x - 1)), count_by_none)

enough_come : (end last r : ℕ) (xs : List ℕ) (tau : ℕ → ℕ) → IsRising end last tau → (x u : ℕ) → IsRank end r xs x
    → u < last → tau x ≤ u → r ≤ count_by (λ y. nat_le (tau y) u) xs
enough_come end last r xs tau rising x u is low come =
    grind (arith, le-leb x x, count_le)

rank_moves : (end last r : ℕ) (xs : List ℕ) (tau : ℕ → ℕ) → IsRising end last tau → 1 ≤ r → (x : ℕ) → IsRank end r xs x
    → IsRank last r (map tau xs) (tau x)
rank_moves end last r xs tau rising some x is = record {
  within = grind arith;
  comes = λ u low.
      let counted : count_by (λ y. nat_le y u) (map tau xs)
      ≡ count_by (λ y. nat_le (tau y) u) xs = count_by-map (λ y. nat_le y u) tau xs in
      both_imply _ _
      (λ e. elim (cases_lt u (tau x)) [
        | inl after ↦ absurd (let many : r ≤ count_by (λ y. nat_le y u) (map tau xs) = leb-true _ _ e in
            too_few end last r xs tau rising some x u is after (omega (arith, many, counted)))
        | inr come ↦ le-leb (tau x) u come
      ])
      (λ e. le-leb _ _ (omega (
        arith,
        counted,
        enough_come end last r xs tau rising x u is low
            (leb-true (tau x) u e),
      )));
}

pub ranks_rise : (end last r : ℕ) (xs : List ℕ) (tau : ℕ → ℕ) → IsRising end last tau → 1 ≤ r
    → rank_at last r (map tau xs) ≡ tau (rank_at end r xs)
ranks_rise end last r xs tau rising some =
    one_rank last r (map tau xs) _ _ (rank_is last r (map tau xs))
    (rank_moves end last r xs tau rising some (rank_at end r xs) (rank_is end r xs))

-- times of edges that are changed
times_moved : (k : ℕ) (at other : EdgeTimes) (tau : ℕ → ℕ) (s : ℕ) → ((ring : ℕ) → other ring s ≡ tau (at ring s))
    → times_to k other s ≡ map tau (times_to k at s)
times_moved k at other tau s same =
    grind (arith, map-map)

pub lows_rise : (end last : ℕ) (rule : Rule) (at : EdgeTimes) (tau : ℕ → ℕ) → IsRising end last tau → IsRule rule
    → (s : ℕ) → low_of last rule (moved tau at) s ≡ tau (low_of end rule at s)
unfolding low_of
lows_rise end last rule at tau rising is s =
    ap (rank_at last rule.l) (times_moved rule.k at (moved tau at) tau s (λ ring. refl))
    ∙ ranks_rise end last rule.l (times_to rule.k at s) tau rising is.low

full_moves : (end last : ℕ) (r : Layout) (rule : Rule) (at : EdgeTimes) (tau : ℕ → ℕ) → IsRising end last tau
    → IsRule rule
    → (s ring : ℕ) → full_time last r rule (moved tau at) ring s ≡ tau (full_time end r rule at ring s)
unfolding full_time
full_moves end last r rule at tau rising is s ring =
    grind (arith, lows_rise)

pub highs_rise : (end last : ℕ) (r : Layout) (rule : Rule) (at : EdgeTimes) (tau : ℕ → ℕ) → IsRising end last tau
    → IsRule rule
    → (s : ℕ) → high_of last r rule (moved tau at) s ≡ tau (high_of end r rule at s)
unfolding high_of
highs_rise end last r rule at tau rising is s =
    ap (rank_at last rule.h) (times_moved rule.k (full_time end r rule at) (full_time last r rule (moved tau at)) tau s
    (λ ring. full_moves end last r rule at tau rising is s ring))
    ∙ ranks_rise end last rule.h (times_to rule.k (full_time end r rule at) s) tau rising
    (omega (arith, is.low, is.gap))
