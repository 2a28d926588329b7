-- The rule of a board. It holds between any two atomic steps.
use Rattle.std.specs.Prelude.{ℕ, ◌^◌, List}
use Rattle.std.specs.List.{range_with_len}
use Rattle.std.specs.List.Sorted.{IsPermutation}

-- how many numbers one seat may draw, and what it may count, over all studies
abbrev pub seat_limit : ℕ
seat_limit = 2 ^ 48

-- the numbers below n, each once, in some order
abbrev pub IsEachBelow : ℕ → List ℕ → Type 0
IsEachBelow n xs = IsPermutation (range_with_len 0 n) xs
