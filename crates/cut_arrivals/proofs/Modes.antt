-- Modes of processes by the times of edges.
use Rattle.std.proofs.Common.{◌≡◌, inl, inr, ℕ, ◌<◌, ◌≤◌, ◌&&◌, not, nat_le, nat_lt}
use Rattle.std.proofs.Common.{ap, sym, ◌∙◌, arith}
use Rattle.std.specs.List.{count_by}
use Rattle.std.proofs.lemmas.Bool.{cases_lt, le-leb, leb-true}
use Rattle.std.proofs.lemmas.List.Elements.{All-map}
use Rattle.cut_lists.proofs.Ranges.{count_by_agree}
use Rattle.cut_lists.proofs.Maps.{count_by-map}
use Rattle.cut_rings.specs.Layout.{Layout}
use Rattle.cut_rings.specs.Edges.{EdgeSet}
use Rattle.cut_detector.specs.Rule.{Rule}
use Rattle.cut_detector.specs.Counts.{ring_count, full_count}
unfoldable use Rattle.cut_detector.specs.Counts.{is_reported, is_full, is_stable, is_unstable}
use Rattle.cut_arrivals.specs.proposals.Times.{EdgeTimes, ComesAt, IsRule, times_to}
unfoldable use Rattle.cut_arrivals.specs.proposals.Times.{low_of, full_time, high_of}
use Rattle.cut_arrivals.proofs.Tests.{lt_is_not_le}
use Rattle.cut_arrivals.proofs.RankLemmas.{rank_is, rank_no_less}
use Rattle.cut_detector.proofs.Modes.{marked-is}

-- edges of a set, counted by their times
count_come : (k : ℕ) (at : EdgeTimes) (F : EdgeSet) (t s : ℕ)
    → ((ring : ℕ) → ring < k → F ring s ≡ nat_le (at ring s) t)
    → ring_count k F s ≡ count_by (λ x. nat_le x t) (times_to k at s)
count_come k at F t s same =
    grind (arith, count_by_agree, count_by-map)

pub reported_from_low : (r : Layout) (rule : Rule) (end : ℕ) (E : ℕ → EdgeSet) (at : EdgeTimes)
    → ComesAt r rule end E at
    → (t s : ℕ) → t < end → s < r.nodes → is_reported rule (E t) s ≡ nat_le (low_of end rule at s) t
unfolding is_reported low_of
reported_from_low r rule end E at come t s low process =
    ap (nat_le rule.l) (count_come rule.k at (E t) t s (λ ring below. come.comes t ring s low below process))
    ∙ (rank_is end rule.l (times_to rule.k at s)).comes t low

pub counts_from_full : (r : Layout) (rule : Rule) (end : ℕ) (E : ℕ → EdgeSet) (at : EdgeTimes) → ComesAt r rule end E at
    → (t ring s : ℕ) → t < end → ring < rule.k → s < r.nodes
    → is_full r rule (E t) ring s ≡ nat_le (full_time end r rule at ring s) t
unfolding is_full full_time
counts_from_full r rule end E at come t ring s low below process =
    grind (arith, reported_from_low r rule end E at come t)

full_from_high : (r : Layout) (rule : Rule) (end : ℕ) (E : ℕ → EdgeSet) (at : EdgeTimes) → ComesAt r rule end E at
    → (t s : ℕ) → t < end → s < r.nodes
    → nat_le rule.h (full_count r rule (E t) s) ≡ nat_le (high_of end r rule at s) t
unfolding high_of
full_from_high r rule end E at come t s low process =
    ap (nat_le rule.h) (count_come rule.k (full_time end r rule at) (is_full r rule (E t)) t s
    (λ ring below. counts_from_full r rule end E at come t ring s low below process))
    ∙ (rank_is end rule.h (times_to rule.k (full_time end r rule at) s)).comes t low

pub stable_from_high : (r : Layout) (rule : Rule) (end : ℕ) (E : ℕ → EdgeSet) (at : EdgeTimes) → ComesAt r rule end E at
    → (t s : ℕ) → t < end → s < r.nodes → is_stable r rule (E t) s ≡ nat_le (high_of end r rule at s) t
unfolding is_stable
stable_from_high r rule end E at come t s low process = full_from_high r rule end E at come t s low process

pub unstable_between : (r : Layout) (rule : Rule) (end : ℕ) (E : ℕ → EdgeSet) (at : EdgeTimes) → ComesAt r rule end E at
    → (t s : ℕ) → t < end → s < r.nodes
    → is_unstable r rule (E t) s ≡ (nat_le (low_of end rule at s) t && nat_lt t (high_of end r rule at s))
unfolding is_unstable
unstable_between r rule end E at come t s low process =
    let full : ℕ = full_count r rule (E t) s in
    ap (λ b. b && nat_lt full rule.h) (marked-is r rule (E t) s ∙ reported_from_low r rule end E at come t s low
    process)
    ∙ ap (λ b. nat_le (low_of end rule at s) t && b) (lt_is_not_le full rule.h
    ∙ ap not (full_from_high r rule end E at come t s low process)
    ∙ sym (lt_is_not_le t (high_of end r rule at s)))

low_within : (end : ℕ) (rule : Rule) (at : EdgeTimes) (s : ℕ) → low_of end rule at s ≤ end
unfolding low_of
low_within end rule at s = (rank_is end rule.l (times_to rule.k at s)).within

pub high_within : (end : ℕ) (r : Layout) (rule : Rule) (at : EdgeTimes) (s : ℕ) → high_of end r rule at s ≤ end
unfolding high_of
high_within end r rule at s = (rank_is end rule.h (times_to rule.k (full_time end r rule at) s)).within

-- no process is reported before the first time
pub low_no_less : (end : ℕ) (rule : Rule) (at : EdgeTimes) (a : ℕ) → IsRule rule → a ≤ end
    → ((ring s : ℕ) → a ≤ at ring s) → (s : ℕ) → a ≤ low_of end rule at s
unfolding low_of
low_no_less end rule at a is within from s =
    search (arith, rank_no_less, All-map)

-- a process is reported before it is stable
pub low_before_high : (r : Layout) (rule : Rule) (end : ℕ) (E : ℕ → EdgeSet) (at : EdgeTimes) → ComesAt r rule end E at
    → IsRule rule → (s : ℕ) → s < r.nodes → low_of end rule at s ≤ high_of end r rule at s
low_before_high r rule end E at come is s process = elim (cases_lt (high_of end r rule at s) (low_of end rule at s)) [
  | inr ordered ↦ ordered
  | inl less ↦ absurd (
      let t : ℕ = high_of end r rule at s in
      let low : t < end = omega (arith, less, low_within end rule at s) in
      let many : rule.h ≤ full_count r rule (E t) s =
      leb-true _ _ (full_from_high r rule end E at come t s low process ∙ le-leb t t (omega arith)) in
      let come_by : low_of end rule at s ≤ t =
      grind (arith, reported_from_low r rule end E at come t s low process, marked-is r rule (E t) s) in
      omega (arith, less, come_by))
]
