-- Orders of the first processes.
use Rattle.std.specs.Prelude.{◌≡◌, ℕ, ◌<◌, List, length, slice_index, count_by}
use Rattle.std.specs.List.{range_with_len}
use Rattle.std.specs.List.Sorted.{IsPermutation}
use Rattle.std.specs.declared.cmp.Ordering.{Ordering}
use Rattle.std.specs.Ordering.{is_lt}

-- a list of the first n processes, each once
abbrev pub IsOrder : ℕ → List ℕ → Type 0
IsOrder n order = IsPermutation (range_with_len 0 n) order

-- an order in which each process stands at the number of lesser ones
pub record IsRanked (compare : ℕ → ℕ → Ordering) (n : ℕ) (order : List ℕ) : Type 0 where
  pub each_once : IsOrder n order
  pub ranks : (i : ℕ) → i < length order → count_by (λ q. is_lt (compare q (slice_index order i))) (range_with_len 0 n)
      ≡ i
