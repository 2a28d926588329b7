-- The trials of a line of the table are trials of its cell.
use Rattle.std.proofs.Common.{◌≡◌, ℕ, ◌+◌, ◌*◌, ◌<◌, length, get_or, subst, sym, ap, arith}
use Rattle.cut_laws.proofs.Words.{All, Cell, Values, cell_at, cells_of, no_cell, trial_count}
use Rattle.cut_outcome.specs.Sum.{trials_of_cell}
use Rattle.cut_laws.specs.Lines.{IsLine, TrialsAreOfTheirLine, cell_of_line}
use Rattle.std.proofs.Math.Nat.{add-mul, div-eq_of_lt-le}
use Rattle.std.proofs.lemmas.Nat.{mul-le}
use Rattle.cut_lists.proofs.Ranges.{All-range_with_len}

pub of_their_line : TrialsAreOfTheirLine
of_their_line v i line =
    All-range_with_len (λ t. (t < trial_count v) × (cell_at v t ≡ cell_of_line v i)) (i * v.repeats) v.repeats
    (λ t from below. (
      omega (
        arith,
        below,
        line.listed,
        add-mul i 1 v.repeats,
        mul-le (i + 1) v.repeats (length (cells_of v)) v.repeats (omega (arith, line.listed)) (omega arith),
      ),
      ap (λ n. get_or (cells_of v) n no_cell)
          (div-eq_of_lt-le v.repeats from (omega (arith, below, add-mul i 1 v.repeats))),
    ))

-- what holds of each trial of the cell holds of those of the line
pub each_of_line : (v : Values) (i : ℕ) (P : Cell → Type 0) → IsLine v i → P (cell_of_line v i)
    → All (λ t. (t < trial_count v) × P (cell_at v t)) (trials_of_cell v i)
each_of_line v i P line is = λ k d below.
    let of = of_their_line v i line k d below in (of.0, subst P (sym of.1) is)
