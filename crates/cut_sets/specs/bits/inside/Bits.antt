-- Bits that stand in words of 64, the lowest bit of a word first.
use Rattle.std.specs.Prelude.{ℕ, ◌≤◌, ◌*◌, ◌/◌, ◌%◌, ◌==◌, Bool, List, map, slice_index_or}
use Rattle.std.specs.List.{range_with_len}
use Rattle.std.specs.Int.{bit_at}

-- whether the bit at a place is set
abbrev pub is_set : List ℕ → ℕ → Bool
is_set words place = bit_at (slice_index_or words (place / 64) 0) (place % 64) == 1

-- the first `len` bits
abbrev pub bits_of : List ℕ → ℕ → List Bool
bits_of words len = map (is_set words) (range_with_len 0 len)

-- there is a word for each bit
abbrev pub IsBitList : ℕ → ℕ → Type 0
IsBitList words len = len ≤ words * 64
