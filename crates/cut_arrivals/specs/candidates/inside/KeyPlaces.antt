-- What only the crate's own clauses and proofs cite, beside specs/KeyPlaces.antt.
use Rattle.std.specs.Prelude.{◌≡◌, ℕ, ◌+◌, ◌-◌, ◌/◌, ◌%◌, ◌^◌, ◌<◌, ◌≤◌, List, length, slice_index, All}
use Rattle.cut_arrivals.specs.declared.candidates.key_places.KeyPlace.{KeyPlace}
use Rattle.cut_arrivals.specs.candidates.KeyPlaces.{key_in}

-- the key place among some blocks of the key of this number
pub record IsKeyPlace (blocks : List ℕ) (number : ℕ) (key_place : KeyPlace) : Type 0 where
  pub key : key_in blocks key_place ≡ (number / 8, number % 8)
  pub within : key_place.block < length blocks
  pub eight : key_place.key < 8

-- blocks once some are added: the old ones come first, at most `more` follow, and all are below 2 ^ 13 if the old ones
-- are
pub record Extends (old : List ℕ) (more : ℕ) (new : List ℕ) : Type 0 where
  pub long : length old ≤ length new
  pub kept : (i : ℕ) → i < length old → slice_index new i ≡ slice_index old i
  pub few : length new ≤ length old + more
  pub small : All (λ block. block < 2 ^ 13) old → All (λ block. block < 2 ^ 13) new

-- a block is the last one
pub record IsLast (blocks : List ℕ) (block : ℕ) : Type 0 where
  pub some : 0 < length blocks
  pub last : slice_index blocks (length blocks - 1) ≡ block
