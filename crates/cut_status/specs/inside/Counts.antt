-- How many cells of a tally are done.
use Rattle.std.specs.Prelude.{ℕ, count_by}
use Rattle.std.specs.List.{range_with_len}
use Rattle.cut_ledger.specs.Tally.{Tally, has_cell}

-- of the first n: each trial of theirs is held
abbrev pub done_among : Tally → ℕ → ℕ
done_among a n = count_by (has_cell a) (range_with_len 0 n)
