-- Laws of proposals by times.
use Rattle.std.specs.Prelude.{◌≡◌, ℕ, ◌+◌, ◌/◌, ◌%◌, ◌^◌, ◌<◌, ◌≤◌, ◌&&◌, ◌||◌, ◌==◌, IsTrue, Bool, true, false, not}
use Rattle.std.specs.Prelude.{nat_le, nat_lt, min, max, List, All, Contains, map, filter, count_by, Some, None, find}
use Rattle.std.specs.Prelude.{option_map, if◌then◌else◌}
use Rattle.std.specs.List.{range_with_len, list_any}
use Rattle.cut_rings.specs.Layout.{Layout, observer_of}
use Rattle.cut_rings.specs.Edges.{EdgeSet, set_of, edge_number}
use Rattle.cut_detector.specs.Rule.{Rule}
use Rattle.cut_detector.specs.Counts.{is_reported, is_gained, is_full, is_stable, is_unstable}
use Rattle.cut_detector.specs.Proposal.{proposal_of}
use Rattle.cut_arrivals.specs.proposals.Times.{EdgeTimes, ComesAt, low_of, full_time, high_of, members_by, is_settled_by, IsRule}
use Rattle.cut_arrivals.specs.proposals.Rising.{IsRising, moved}
use Rattle.cut_arrivals.specs.proposals.Candidates.{AreTimes, AreCandidates, IsClosed}
use Rattle.cut_arrivals.specs.proposals.Values.{ArePresent, AreFullTimes}
use Rattle.cut_arrivals.specs.blocks.Images.{never, row_of, least_image}
use Rattle.cut_arrivals.specs.proposals.Reception.{Reception, IsReception, deliveries_of, image_of, images_at, proposal_at}
use Rattle.cut_arrivals.specs.proposals.Reception.{lows_at}
use Rattle.cut_arrivals.specs.proposals.Reception.{highs_at}
use Rattle.cut_arrivals.specs.ranks.Ranks.{rank_at, IsRank}

-- a process is reported on L rings exactly from its low time on
abbrev pub IsReportedFromLow : Type 0
IsReportedFromLow =
    (r : Layout) (rule : Rule) (end : ℕ) (E : ℕ → EdgeSet) (at : EdgeTimes) → ComesAt r rule end E at →
    (t s : ℕ) → t < end → s < r.nodes → is_reported rule (E t) s ≡ nat_le (low_of end rule at s) t

-- a ring counts exactly from its full time on
abbrev pub CountsFromFullTime : Type 0
CountsFromFullTime =
    (r : Layout) (rule : Rule) (end : ℕ) (E : ℕ → EdgeSet) (at : EdgeTimes) → ComesAt r rule end E at →
    (t ring s : ℕ) → t < end → ring < rule.k → s < r.nodes →
    is_full r rule (E t) ring s ≡ nat_le (full_time end r rule at ring s) t

-- a process is stable exactly from its high time on
abbrev pub IsStableFromHigh : Type 0
IsStableFromHigh =
    (r : Layout) (rule : Rule) (end : ℕ) (E : ℕ → EdgeSet) (at : EdgeTimes) → ComesAt r rule end E at →
    (t s : ℕ) → t < end → s < r.nodes → is_stable r rule (E t) s ≡ nat_le (high_of end r rule at s) t

-- and unstable exactly from its low time on until its high time
abbrev pub IsUnstableBetween : Type 0
IsUnstableBetween =
    (r : Layout) (rule : Rule) (end : ℕ) (E : ℕ → EdgeSet) (at : EdgeTimes) → ComesAt r rule end E at →
    (t s : ℕ) → t < end → s < r.nodes →
    is_unstable r rule (E t) s ≡ (nat_le (low_of end rule at s) t && nat_lt t (high_of end r rule at s))

-- the proposal is made at the first time from 1 on that is settled by low and high times alone, and its members are
-- those whose high time has come by then
abbrev pub ProposesByTimes : Type 0
ProposesByTimes =
    (r : Layout) (rule : Rule) (count : ℕ) (E : ℕ → EdgeSet) (at : EdgeTimes) → ComesAt r rule (count + 1) E at →
    proposal_of r rule E count ≡
    option_map (λ t. record { members = members_by r.nodes (high_of (count + 1) r rule at) t; at = t })
    (find (λ t. is_settled_by r.nodes (low_of (count + 1) rule at) (high_of (count + 1) r rule at) t)
    (range_with_len 1 count))

-- where times are changed weakly rising, ranks, lows and highs are changed in the same way
abbrev pub RanksRise : Type 0
RanksRise =
    (end last rank : ℕ) (xs : List ℕ) (tau : ℕ → ℕ) → IsRising end last tau → 1 ≤ rank →
    rank_at last rank (map tau xs) ≡ tau (rank_at end rank xs)

abbrev pub LowsRise : Type 0
LowsRise =
    (end last : ℕ) (rule : Rule) (at : EdgeTimes) (tau : ℕ → ℕ) → IsRising end last tau → IsRule rule →
    (s : ℕ) → low_of last rule (moved tau at) s ≡ tau (low_of end rule at s)

abbrev pub HighsRise : Type 0
HighsRise =
    (end last : ℕ) (r : Layout) (rule : Rule) (at : EdgeTimes) (tau : ℕ → ℕ) → IsRising end last tau → IsRule rule →
    (s : ℕ) → high_of last r rule (moved tau at) s ≡ tau (high_of end r rule at s)

-- if nothing is doubted, the closing of changed times gives the members at the first settled time
abbrev pub ClosesAsSettled : Type 0
ClosesAsSettled =
    (n count last : ℕ) (low high tau : ℕ → ℕ) (reported_at stable_at : List ℕ) (first time : ℕ) →
    IsRising (count + 1) last tau → AreTimes n (count + 1) low high →
    IsClosed n last (λ s. tau (low s)) (λ s. tau (high s)) reported_at stable_at first time →
    option_map (λ t. members_by n high t) (find (λ t. is_settled_by n low high t) (range_with_len 1 count))
    ≡ (if nat_lt time last then Some (members_by n (λ s. tau (high s)) time) else None)

-- what a receiver proposes has the members that the closing of images gives, if nothing is doubted
abbrev pub ClosesAsProposed : Type 0
ClosesAsProposed =
    (x : Reception) (last : ℕ) (reported_at stable_at : List ℕ) (first time : ℕ) → IsReception x → 2 ^ 30 ≤ last →
    IsClosed x.layout.nodes last (lows_at x last) (highs_at x last) reported_at stable_at first time →
    option_map (λ p. p.members) (proposal_at x)
    ≡ (if nat_lt time last then Some (members_by x.layout.nodes (highs_at x last) time) else None)

-- and where at most one delivery has the image of the closing time, it is made at the place that the deliveries with
-- images up to it show
abbrev pub ClosesAtPlace : Type 0
ClosesAtPlace =
    (x : Reception) (last : ℕ) (reported_at stable_at : List ℕ) (first time : ℕ) → IsReception x → 2 ^ 30 ≤ last →
    IsClosed x.layout.nodes last (lows_at x last) (highs_at x last) reported_at stable_at first time →
    count_by (λ y. image_of x y == time) (deliveries_of x) ≤ 1 →
    proposal_at x
    ≡ (if nat_lt time last
    then Some (record {
      members = members_by x.layout.nodes (highs_at x last) time;
      at = count_by (λ y. nat_le (image_of x y) time) (deliveries_of x);
    })
    else None)

-- at each receiver the same processes are reported in the end, and the same are stable: those that are by all edges
abbrev pub EndsReportedAlike : Type 0
EndsReportedAlike =
    (x : Reception) (last : ℕ) → IsReception x → 1 ≤ x.copies → 2 ^ 30 ≤ last → (s : ℕ) → s < x.layout.nodes →
    nat_lt (lows_at x last s) last ≡ is_reported x.rule (set_of x.edges) s

abbrev pub EndsStableAlike : Type 0
EndsStableAlike =
    (x : Reception) (last : ℕ) → IsReception x → 1 ≤ x.copies → 2 ^ 30 ≤ last → (s : ℕ) → s < x.layout.nodes →
    nat_lt (highs_at x last s) last ≡ is_stable x.layout x.rule (set_of x.edges) s

-- if no process is stable by all edges, no receiver proposes
abbrev pub SilentWhereNoneEndsStable : Type 0
SilentWhereNoneEndsStable =
    (x : Reception) → IsReception x →
    ((s : ℕ) → s < x.layout.nodes → ¬ IsTrue (is_stable x.layout x.rule (set_of x.edges) s)) → proposal_at x ≡ None

-- the images of edges, and lows and highs, as they are computed

-- the image of an alerted edge is the least over its copies, of the key that its number gives in the blocks of the row
-- of
-- the receiver
abbrev pub ImagesAreLeast : Type 0
ImagesAreLeast =
    (x : Reception) (ring s : ℕ) → IsTrue (set_of x.edges ring s) →
    images_at x never ring s
    ≡ least_image x.source x.copies (edge_number x.rule.k (record { ring = ring; subject = s }) / 8)
    (edge_number x.rule.k (record { ring = ring; subject = s }) % 8) (row_of 0 x.receiver)

-- an edge that isn't alerted has no image
abbrev pub OthersNeverCome : Type 0
OthersNeverCome =
    (x : Reception) (last ring s : ℕ) → IsReception x → 1 ≤ x.copies → 2 ^ 30 ≤ last →
    set_of x.edges ring s ≡ false → images_at x last ring s ≡ last

-- a ring that isn't gained counts from the image of its edge on
abbrev pub UngainedCountByImage : Type 0
UngainedCountByImage =
    (x : Reception) (last ring s : ℕ) → IsReception x → 1 ≤ x.copies → 2 ^ 30 ≤ last → ring < x.rule.k
    → s < x.layout.nodes
    →
    is_gained x.layout x.rule (set_of x.edges) ring s ≡ false →
    full_time last x.layout x.rule (images_at x last) ring s ≡ images_at x last ring s

-- and one that is gained also from when both processes are reported
abbrev pub GainedCountByLows : Type 0
GainedCountByLows =
    (x : Reception) (last ring s : ℕ) →
    is_gained x.layout x.rule (set_of x.edges) ring s ≡ true →
    full_time last x.layout x.rule (images_at x last) ring s
    ≡ min (images_at x last ring s) (max (lows_at x last s) (lows_at x last (observer_of x.layout ring s)))

-- so a low is a rank of the images of alerted edges, and a high one of the full times of the rings that count in the
-- end
abbrev pub LowIsRankOfPresent : Type 0
LowIsRankOfPresent =
    (x : Reception) (last s : ℕ) (values : List ℕ) (v : ℕ) → IsReception x → 1 ≤ x.copies → 2 ^ 30 ≤ last → s
    < x.layout.nodes →
    ArePresent x last s values → IsRank last x.rule.l values v → v ≡ lows_at x last s

abbrev pub HighIsRankOfFullTimes : Type 0
HighIsRankOfFullTimes =
    (x : Reception) (last s : ℕ) (values : List ℕ) (v : ℕ) → IsReception x → 1 ≤ x.copies → 2 ^ 30 ≤ last → s
    < x.layout.nodes →
    AreFullTimes x last s values → IsRank last x.rule.h values v → v ≡ highs_at x last s

-- the processes that are reported in the end are all that is needed
abbrev pub ReportedAreCandidates : Type 0
ReportedAreCandidates =
    (x : Reception) (last : ℕ) (candidates : List ℕ) → IsReception x → 1 ≤ x.copies → 2 ^ 30 ≤ last →
    All (λ s. s < x.layout.nodes) candidates →
    ((s : ℕ) → s < x.layout.nodes → IsTrue (is_reported x.rule (set_of x.edges) s) → Contains candidates s) →
    AreCandidates x.layout.nodes last (lows_at x last) (highs_at x last) candidates (map (lows_at x last) candidates)
    (map (highs_at x last) candidates)

-- what the members lack of some targets, and what they have besides, by the candidates alone

-- some target is none of the members if some is no candidate, or some candidate that is a target ends later
abbrev pub CandidatesShowLacking : Type 0
CandidatesShowLacking =
    (x : Reception) (last time : ℕ) (candidates reported_at stable_at : List ℕ) (is_target : ℕ → Bool) → IsReception x
    → 2 ^ 30 ≤ last →
    AreCandidates x.layout.nodes last (lows_at x last) (highs_at x last) candidates reported_at stable_at
    → time < last →
    list_any (λ p. is_target p && not (list_any (λ m. m == p) (members_by x.layout.nodes (highs_at x last) time)))
    (range_with_len 0 x.layout.nodes)
    ≡ (list_any (λ p. is_target p && not (list_any (λ m. m == p) candidates)) (range_with_len 0 x.layout.nodes)
    || list_any (λ p. is_target p && nat_lt time (highs_at x last p)) candidates)

-- some member is no target if some candidate that is none has ended
abbrev pub CandidatesShowOther : Type 0
CandidatesShowOther =
    (x : Reception) (last time : ℕ) (candidates reported_at stable_at : List ℕ) (is_target : ℕ → Bool) → IsReception x
    → 2 ^ 30 ≤ last →
    AreCandidates x.layout.nodes last (lows_at x last) (highs_at x last) candidates reported_at stable_at
    → time < last →
    list_any (λ p. not (is_target p)) (members_by x.layout.nodes (highs_at x last) time)
    ≡ list_any (λ p. not (is_target p) && nat_le (highs_at x last p) time) candidates

-- where neither is so, the members are the targets
abbrev pub MembersAreTargets : Type 0
MembersAreTargets =
    (n time : ℕ) (high : ℕ → ℕ) (is_target : ℕ → Bool) →
    list_any (λ p. is_target p && not (list_any (λ m. m == p) (members_by n high time))) (range_with_len 0 n) ≡ false →
    list_any (λ p. not (is_target p)) (members_by n high time) ≡ false →
    members_by n high time ≡ filter is_target (range_with_len 0 n)
