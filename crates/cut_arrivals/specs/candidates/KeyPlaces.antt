-- Where the keys of edges stand: in which block after a receiver's row begins, and as which of the block's eight keys.
use Rattle.std.specs.Prelude.{◌≡◌, ℕ, ◌+◌, ◌*◌, ◌/◌, ◌%◌, ◌<◌, ◌≤◌, List, map, length, slice_index, slice_index_or, All}
use Rattle.cut_rings.specs.declared.edge.Edge.{Edge}
use Rattle.cut_rings.specs.Edges.{edge_number}
use Rattle.cut_arrivals.specs.declared.candidates.key_places.KeyPlace.{KeyPlace}

-- the block and the key of an edge, by its number among those of k rings
abbrev pub key_of : ℕ → Edge → ℕ × ℕ
key_of k e = (edge_number k e / 8, edge_number k e % 8)

-- the block and the key that a key place names among some blocks
abbrev pub key_in : List ℕ → KeyPlace → ℕ × ℕ
key_in blocks key_place = (slice_index blocks key_place.block, key_place.key)

-- the key places of edges among some blocks, in order of the edges
pub record AreKeyPlaces (k : ℕ) (blocks : List ℕ) (edges : List Edge) (key_places : List KeyPlace) : Type 0 where
  pub keys : map (λ key_place. key_in blocks key_place) key_places ≡ map (λ e. key_of k e) edges
  pub within : All (λ key_place. key_place.block < length blocks) key_places
  pub eight : All (λ key_place. key_place.key < 8) key_places

-- blocks that begin with these
pub record BeginsWith (first blocks : List ℕ) : Type 0 where
  pub long : length first ≤ length blocks
  pub same : (i : ℕ) → i < length first → slice_index blocks i ≡ slice_index first i

-- where the image of a key place stands among those of all blocks, eight for each
abbrev pub index_of : KeyPlace → ℕ
index_of key_place = 8 * key_place.block + key_place.key

-- key places whose images stand one after another, from an index on
pub record AreConsecutive (first : ℕ) (key_places : List KeyPlace) : Type 0 where
  pub some : 0 < length key_places
  pub each : (j : ℕ) (d : KeyPlace) → j < length key_places → index_of (slice_index_or key_places j d) ≡ first + j
