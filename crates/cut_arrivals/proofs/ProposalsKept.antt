-- What holds of each time of an edge holds of each low and high time that comes.
use Rattle.std.proofs.Common.{ℕ, ◌<◌, arith}
use Rattle.std.specs.List.{range_with_len}
use Rattle.std.proofs.lemmas.List.Elements.{All-map}
use Rattle.cut_rings.specs.Layout.{Layout}
use Rattle.cut_detector.specs.Rule.{Rule}
use Rattle.cut_arrivals.specs.proposals.Times.{EdgeTimes, IsRule, times_to}
unfoldable use Rattle.cut_arrivals.specs.proposals.Times.{low_of, full_time, high_of}
use Rattle.cut_arrivals.proofs.RankLemmas.{rank_keeps}

low_keeps : (P : ℕ → Type 0) (end : ℕ) (rule : Rule) (at : EdgeTimes) → IsRule rule
    → ((ring s : ℕ) → at ring s < end → P (at ring s))
    → (s : ℕ) → low_of end rule at s < end → P (low_of end rule at s)
unfolding low_of
low_keeps P end rule at is each s less =
    rank_keeps P end rule.l (times_to rule.k at s) is.low
    (All-map (λ t. t < end → P t) (λ ring. at ring s) (range_with_len 0 rule.k) (λ k d _. each _ s)) less

full_keeps : (P : ℕ → Type 0) (end : ℕ) (r : Layout) (rule : Rule) (at : EdgeTimes) → IsRule rule
    → ((ring s : ℕ) → at ring s < end → P (at ring s))
    → (ring s : ℕ) → full_time end r rule at ring s < end → P (full_time end r rule at ring s)
unfolding full_time
full_keeps P end r rule at is each ring s less =
    grind (arith, low_keeps P end rule at is each)

pub high_keeps : (P : ℕ → Type 0) (end : ℕ) (r : Layout) (rule : Rule) (at : EdgeTimes) → IsRule rule
    → ((ring s : ℕ) → at ring s < end → P (at ring s))
    → (s : ℕ) → high_of end r rule at s < end → P (high_of end r rule at s)
unfolding high_of
high_keeps P end r rule at is each s less =
    rank_keeps P end rule.h (times_to rule.k (full_time end r rule at) s) (omega (arith, is.low, is.gap))
    (All-map (λ t. t < end → P t) (λ ring. full_time end r rule at ring s) (range_with_len 0 rule.k)
    (λ k d _. full_keeps P end r rule at is each _ s)) less
