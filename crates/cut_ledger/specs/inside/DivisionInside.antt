-- What of a `Division` contracts see, and what is always true of it.
use Rattle.std.specs.Prelude.{◌≡◌, ℕ, ◌+◌, ◌-◌, ◌≤◌, ◌<◌, ◌^◌, List, All, map, take, length, slice_index_or}
use Rattle.std.specs.Int.{div_ceil}
use Rattle.std.specs.List.{flat_map}
use Rattle.cut_outcome.specs.declared.piece.Piece.{Piece}
use Rattle.cut_ledger.specs.Gaps.{part_of, parts_of}
use Rattle.cut_ledger.specs.declared.division.Stretch.{Stretch}
use Rattle.cut_ledger.specs.declared.division.Division.TheInside.{Inside}

abbrev pub gaps_in : List Stretch → List Piece
gaps_in ss = map (λ s. s.gap) ss

-- the pieces of the first n gaps
abbrev pub pieces_up_to : ℕ → List Stretch → ℕ → List Piece
pieces_up_to size ss n = flat_map (parts_of size) (take n (gaps_in ss))

abbrev pub pieces_in : Inside → List Piece
pieces_in d = flat_map (parts_of d.size) (gaps_in d.stretches.items)

-- beside each gap stands how many pieces there are up to its end
abbrev pub ArePiecesCounted : ℕ → List Stretch → Type 0
ArePiecesCounted size ss =
    (i : ℕ) (d : Stretch) → i < length ss → (slice_index_or ss i d).end ≡ length (pieces_up_to size ss (i + 1))

-- each gap ends below 2^32
abbrev pub AreWithin : List Stretch → Type 0
AreWithin ss = All (λ s. s.gap.first + s.gap.count < 2 ^ 32) ss

-- the piece of this number is one of a gap
pub record HasNumber (size : ℕ) (s : Stretch) (number : ℕ) : Type 0 where
  pub parts : div_ceil s.gap.count size ≤ s.end
  pub from : s.end ≤ number + div_ceil s.gap.count size
  pub below : number < s.end

-- which one it is
abbrev pub piece_of : ℕ → Stretch → ℕ → Piece
piece_of size s number = part_of size s.gap (number - (s.end - div_ceil s.gap.count size))

pub record IsDivision (d : Inside) : Type 0 where
  pub some : 1 ≤ d.size
  pub within : AreWithin d.stretches.items
  pub counted : ArePiecesCounted d.size d.stretches.items
  pub few : length (pieces_in d) < 2 ^ 32
