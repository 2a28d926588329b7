-- When edges come, and from when on a process is reported and stable. A time may be a place among deliveries or the
-- image of a key. What doesn't come has the time `end`, or a later one: all that comes has a time before it.
use Rattle.std.specs.Prelude.{◌≡◌, ℕ, ◌<◌, ◌≤◌, ◌&&◌, Bool, not, nat_le, nat_lt, List, map, filter, min, max}
use Rattle.std.specs.Prelude.{if◌then◌else◌}
use Rattle.std.specs.List.{range_with_len, list_any}
use Rattle.cut_rings.specs.Layout.{Layout, observer_of}
use Rattle.cut_rings.specs.Edges.{EdgeSet}
use Rattle.cut_detector.specs.Rule.{Rule}
use Rattle.cut_arrivals.specs.ranks.Ranks.{rank_at}

-- the time of each edge, by its ring and its subject
abbrev pub EdgeTimes : Type 0
EdgeTimes = ℕ → ℕ → ℕ

-- the times of the edges to s on the first k rings
abbrev pub times_to : ℕ → EdgeTimes → ℕ → List ℕ
times_to k at s = map (λ ring. at ring s) (range_with_len 0 k)

-- when s has come to be reported on L rings
unfoldable pub low_of : ℕ → Rule → EdgeTimes → ℕ → ℕ
low_of end rule at s = rank_at end rule.l (times_to rule.k at s)

-- when a ring comes to count for s: if it is reported there, or else, with implicit alerts, where s and its observer
-- both are on L rings
unfoldable pub full_time : ℕ → Layout → Rule → EdgeTimes → EdgeTimes
full_time end r rule at ring s =
    if rule.implicit
    then min (at ring s) (max (low_of end rule at s) (low_of end rule at (observer_of r ring s)))
    else at ring s

-- when H rings have come to count for s
unfoldable pub high_of : ℕ → Layout → Rule → EdgeTimes → ℕ → ℕ
high_of end r rule at s = rank_at end rule.h (times_to rule.k (full_time end r rule at) s)

-- before `end` the sets E have exactly the edges whose time has come, of the rings of a rule and the processes of a
-- layout, in which observers are processes
pub record ComesAt (r : Layout) (rule : Rule) (end : ℕ) (E : ℕ → EdgeSet) (at : EdgeTimes) : Type 0 where
  pub comes : (t ring s : ℕ) → t < end → ring < rule.k → s < r.nodes → E t ring s ≡ nat_le (at ring s) t
  pub observers : (ring s : ℕ) → ring < rule.k → s < r.nodes → observer_of r ring s < r.nodes

-- of n processes those that are stable by a time, ascending
abbrev pub members_by : ℕ → (ℕ → ℕ) → ℕ → List ℕ
members_by n high time = filter (λ s. nat_le (high s) time) (range_with_len 0 n)

-- whether some process is stable by a time, and each that is reported by then is stable
abbrev pub is_settled_by : ℕ → (ℕ → ℕ) → (ℕ → ℕ) → ℕ → Bool
is_settled_by n low high time =
    list_any (λ s. nat_le (high s) time) (range_with_len 0 n)
    && not (list_any (λ s. nat_le (low s) time && nat_lt time (high s)) (range_with_len 0 n))

-- a rule as detectors have it: 1 ≤ L ≤ H
pub record IsRule (rule : Rule) : Type 0 where
  pub low : 1 ≤ rule.l
  pub gap : rule.l ≤ rule.h
