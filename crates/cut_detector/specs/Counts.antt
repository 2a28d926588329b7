-- Reports, full reports and modes of the processes, if a set of edges has been delivered. (The Rapid paper's section on
-- multi-process cut detection; that tallies count distinct rings, and what implicit alerts add, is this project's
-- profile.)
use Rattle.std.specs.Prelude.{ℕ, Bool, ◌&&◌, ◌||◌, not, List, count_by, filter, nat_lt, nat_le}
use Rattle.std.specs.List.{range_with_len, list_any}
use Rattle.cut_rings.specs.Layout.{Layout, observer_of}
use Rattle.cut_rings.specs.Edges.{EdgeSet}
use Rattle.cut_detector.specs.Rule.{Rule}

-- on how many of the first k rings a set has the edge to s
abbrev pub ring_count : ℕ → EdgeSet → ℕ → ℕ
ring_count k E s = count_by (λ ring. E ring s) (range_with_len 0 k)

-- on how many distinct rings s is reported
abbrev pub reports_of : Rule → EdgeSet → ℕ → ℕ
reports_of rule E s = ring_count rule.k E s

-- whether s is reported on at least L rings
unfoldable pub is_reported : Rule → EdgeSet → ℕ → Bool
is_reported rule E s = nat_le rule.l (ring_count rule.k E s)

-- whether s gains a ring: implicit alerts are on, and s and its observer on that ring are both
-- reported on at least L rings
abbrev pub is_gained : Layout → Rule → EdgeSet → ℕ → ℕ → Bool
is_gained r rule E ring s = rule.implicit && is_reported rule E s && is_reported rule E (observer_of r ring s)

-- whether a ring counts for s: s is reported there, or gains it
unfoldable pub is_full : Layout → Rule → EdgeSet → ℕ → ℕ → Bool
is_full r rule E ring s = E ring s || is_gained r rule E ring s

-- how many rings count for s
abbrev pub full_count : Layout → Rule → EdgeSet → ℕ → ℕ
full_count r rule E s = ring_count rule.k (is_full r rule E) s

-- stable: at least H rings count
unfoldable pub is_stable : Layout → Rule → EdgeSet → ℕ → Bool
is_stable r rule E s = nat_le rule.h (full_count r rule E s)

-- unstable: at least L and fewer than H rings count
unfoldable pub is_unstable : Layout → Rule → EdgeSet → ℕ → Bool
is_unstable r rule E s = nat_le rule.l (full_count r rule E s) && nat_lt (full_count r rule E s) rule.h

-- whether some process is stable
unfoldable pub is_some_stable : Layout → Rule → EdgeSet → Bool
is_some_stable r rule E = list_any (λ s. is_stable r rule E s) (range_with_len 0 r.nodes)

-- whether some process is unstable
unfoldable pub is_some_unstable : Layout → Rule → EdgeSet → Bool
is_some_unstable r rule E = list_any (λ s. is_unstable r rule E s) (range_with_len 0 r.nodes)

-- settled: some process is stable and none is unstable
unfoldable pub is_settled : Layout → Rule → EdgeSet → Bool
is_settled r rule E =
    list_any (is_stable r rule E) (range_with_len 0 r.nodes)
    && not (list_any (is_unstable r rule E) (range_with_len 0 r.nodes))

-- the stable processes, ascending
unfoldable pub stable_members : Layout → Rule → EdgeSet → List ℕ
stable_members r rule E = filter (λ s. is_stable r rule E s) (range_with_len 0 r.nodes)
