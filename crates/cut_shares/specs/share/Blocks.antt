-- How the trials of a plan are cut into blocks.
use Rattle.std.specs.Prelude.{◌≡◌, ℕ, ◌+◌, ◌*◌, ◌/◌, ◌%◌, ◌==◌, Bool}
use Rattle.std.specs.Int.{div_ceil}
use Rattle.cut_plan.specs.Values.{Values}
use Rattle.cut_outcome.specs.Outcome.{one_if}

-- the number of a trial's block, from 0. Each cell is cut from its first trial into blocks of a size, the last one
-- shorter where less is left, and the blocks of all cells are numbered in order
abbrev pub block_of : ℕ → Values → ℕ → ℕ
block_of size v t = (t / v.repeats) * div_ceil v.repeats size + (t % v.repeats) / size

-- whether a block begins at a trial: at the first of each cell, and at each `size`-th after it
abbrev pub begins_block : ℕ → Values → ℕ → Bool
begins_block size v t = (t % v.repeats) % size == 0

-- blocks are numbered in order, and no number is left out: trial 0 is in block 0, and the trial after another is in
-- the next block where one begins there, and else in the same
pub record AreNumbered (size : ℕ) (v : Values) : Type 0 where
  pub first : block_of size v 0 ≡ 0
  pub next : (t : ℕ) → block_of size v (t + 1) ≡ block_of size v t + one_if (begins_block size v (t + 1))
