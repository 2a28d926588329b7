-- The order of the processes in a trial, by which roles are given (this project's profile).
use Rattle.std.specs.Prelude.{◌≡◌, ℕ, ◌*◌, ◌<◌, List, All, EachIndex, length, slice_index, count_by}
use Rattle.std.specs.List.{range_with_len}
use Rattle.std.specs.List.Sorted.{IsPermutation}
use Rattle.std.specs.declared.cmp.Ordering.{Ordering}
use Rattle.std.specs.Ordering.{nat_cmp, ordering_then, is_lt}
use Rattle.cut_draws.specs.Source.{Source, key_at}

-- the place of a process's key
abbrev pub process_place : ℕ → ℕ
process_place p = 2 * p

-- how q and p compare: by their keys, and by their numbers where these tie
abbrev pub compare_processes : Source → ℕ → ℕ → Ordering
compare_processes d q p =
    ordering_then (nat_cmp (key_at d (2 * q)) (key_at d (2 * p))) (nat_cmp q p)

-- the rank of p among the first n processes: how many of them compare as less
abbrev pub process_rank : Source → ℕ → ℕ → ℕ
process_rank d n p = count_by (λ q. is_lt (compare_processes d q p)) (range_with_len 0 n)

-- a list of the first n processes, in order of their ranks
pub record IsProcessOrder (d : Source) (n : ℕ) (order : List ℕ) : Type 0 where
  -- it holds each process once
  pub each_once : IsPermutation (range_with_len 0 n) order
  -- each stands at its rank
  pub ranks : EachIndex order (λ i. process_rank d n (slice_index order i) ≡ i)
  -- each is found at its rank
  pub found : (p : ℕ) → p < n → (process_rank d n p < n) × (slice_index order (process_rank d n p) ≡ p)
  pub count : length order ≡ n
  pub in_range : All (λ p. p < n) order
