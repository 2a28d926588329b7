-- Ranks of times: what they are, that there is one, and when they have come.
use Rattle.std.proofs.Common.{◌≡◌, inl, inr, ℕ, ◌+◌, ◌-◌, ◌<◌, ◌≤◌, ◌==◌, ◌||◌, true, false, nat_le, nat_lt, List}
use Rattle.std.proofs.Common.{ap, sym, ◌∙◌, arith}
use Rattle.std.specs.List.{All, Contains, count_by}
use Rattle.std.proofs.lemmas.Bool.{both_ways, cases_lt, le-leb, leb-true, lt-leb, lt-ltb}
use Rattle.std.proofs.lemmas.List.Elements.{All-contains}
use Rattle.std.proofs.lemmas.List.Folds.{Any-from_list_any}
use Rattle.cut_lists.proofs.Counts.{counts-into, list_any-count_by}
use Rattle.cut_lists.proofs.Ranks.{count_by_none}
use Rattle.cut_lists.proofs.Parts.{count_le}
unfoldable use Rattle.cut_arrivals.specs.ranks.Ranks.{rank_at}
use Rattle.cut_arrivals.specs.ranks.Ranks.{has_rank, IsRank}
use Rattle.cut_arrivals.proofs.Tests.{IsKept, turns}
use Rattle.cut_arrivals.proofs.RanksRanks.{one_rank}

-- what has come by a time has come by a later one
pub count_by_time-le : (xs : List ℕ) (a b : ℕ) → a ≤ b → count_by (λ x. nat_le x a) xs ≤ count_by (λ x. nat_le x b) xs
count_by_time-le xs a b before =
    grind (arith, count_le)

has_rank-kept : (r : ℕ) (xs : List ℕ) → IsKept (λ t. has_rank r xs t)
has_rank-kept r xs = record {
  kept = λ a b before is.
      let many : r ≤ count_by (λ x. nat_le x a) xs = leb-true _ _ is in
      le-leb _ _ (omega (arith, many, count_by_time-le xs a b before));
}

pub rank_is : (end r : ℕ) (xs : List ℕ) → IsRank end r xs (rank_at end r xs)
unfolding rank_at
rank_is end r xs =
    grind (arith, turns, has_rank-kept r xs)

not_less : (end r : ℕ) (xs : List ℕ) (x y : ℕ) → IsRank end r xs x → IsRank end r xs y → x < y → ⊥
not_less end r xs x y one other less =
    grind (arith, lt-leb y x less, le-leb x x)

-- a rank is no less than what none of the times is less than
pub rank_no_less : (end r : ℕ) (xs : List ℕ) (a : ℕ) → 1 ≤ r → a ≤ end → All (λ x. a ≤ x) xs → a ≤ rank_at end r xs
rank_no_less end r xs a some within all = elim (cases_lt (rank_at end r xs) a) [
  | inr not_less ↦ not_less
  | inl less ↦ absurd (
      let rank : ℕ = rank_at end r xs in
      let many : r ≤ count_by (λ x. nat_le x rank) xs =
      leb-true _ _ ((rank_is end r xs).comes rank (omega (arith, less, within)) ∙ le-leb rank rank (omega arith)) in
      let none : count_by (λ x. nat_le x rank) xs ≡ 0 =
      count_by_none (λ x. nat_le x rank) xs (λ k d low. lt-leb _ rank (omega (arith, less, all k d low))) in
      omega (arith, many, none, some))
]

-- fewer than r of the times are before their r-th
fewer_before : (end r : ℕ) (xs : List ℕ) → 1 ≤ r → count_by (λ x. nat_lt x (rank_at end r xs)) xs < r
fewer_before end r xs some =
    let rank : ℕ = rank_at end r xs in
    grind (arith, rank_is end r xs, count_le, lt-leb rank (rank - 1), count_by_none)

before_or_at : (rank x : ℕ) → nat_le x rank || false ≡ true → nat_lt x rank || (x == rank) ≡ true
before_or_at rank x e = grind arith

-- a rank that comes is one of the times
pub rank_among : (end r : ℕ) (xs : List ℕ) → 1 ≤ r → rank_at end r xs < end → Contains xs (rank_at end r xs)
rank_among end r xs some less =
    let rank : ℕ = rank_at end r xs in
    let many : r ≤ count_by (λ x. nat_le x rank) xs = leb-true _ _
    ((rank_is end r xs).comes rank less ∙ le-leb rank rank (omega arith)) in
    let parts : count_by (λ x. nat_le x rank) xs + count_by (λ _. false) xs ≤ count_by (λ x. nat_lt x rank) xs
    + count_by (λ x. x == rank) xs =
    search (arith, counts-into, both_ways, before_or_at) in
    let one : 0 < count_by (λ x. x == rank) xs = omega (arith, many, parts, fewer_before end r xs some) in
    let at = Any-from_list_any (λ x. x == rank) xs
    (list_any-count_by (λ x. x == rank) xs ∙ lt-ltb 0 (count_by (λ x. x == rank) xs) one) in
    grind arith

-- what holds of each time that comes holds of each rank that does
pub rank_keeps : (P : ℕ → Type 0) (end r : ℕ) (xs : List ℕ) → 1 ≤ r → All (λ x. x < end → P x) xs → rank_at end r xs
    < end → P (rank_at end r xs)
rank_keeps P end r xs some all less = All-contains (λ x. x < end → P x) xs (rank_at end r xs) all
    (rank_among end r xs some less) less

-- times of which as many have come by each time have the same ranks
pub rank_of_alike : (end r : ℕ) (values xs : List ℕ) (v : ℕ)
    → ((t : ℕ) → t < end → count_by (λ x. nat_le x t) values ≡ count_by (λ x. nat_le x t) xs) → IsRank end r values v
    → v ≡ rank_at end r xs
rank_of_alike end r values xs v alike is =
    one_rank end r xs v (rank_at end r xs)
    (record { within = is.within; comes = λ t low. ap (nat_le r) (sym (alike t low)) ∙ is.comes t low })
    (rank_is end r xs)
