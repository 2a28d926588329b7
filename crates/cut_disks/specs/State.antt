-- What is on a disk: what reads give, and what a crash may leave. This is the project's own model of a disk.
use Rattle.std.specs.Prelude.{◌≡◌, ◌<◌, ◌≤◌, ◌+◌, ◌&&◌, ◌++◌, ◌⊎◌, ℕ, Bool, false, List, [], ◌∷◌, length, take, drop}
use Rattle.std.specs.Prelude.{max, slice_index, nat_lt, nat_le, Result, Ok, Err, ⊤}
use Rattle.std.specs.List.{list_any, AllByRecursion}

-- the places `start` to `stop - 1`
pub record Span : Type 0 where
  pub start : ℕ
  pub stop : ℕ

-- what is durable on the disk: its bytes at the last successful sync, and the spans of all writes begun since then,
-- also of failed ones
pub record Stable : Type 0 where
  pub synced : List ℕ
  pub spans : List Span

-- whether a place is in a span
abbrev pub covers : ℕ → Span → Bool
covers i span = nat_le span.start i && nat_lt i span.stop

-- the maximum of a length and of the places where spans end
abbrev pub reach : ℕ → List Span → ℕ
reach n [] = n
reach n (span ∷ spans) = max span.stop (reach n spans)

-- what a crash may leave now: it is at least as long as what was synced and at most as long as the furthest span
-- reaches; and each synced place that is in no span has its synced byte
pub record IsImage (s : Stable) (bytes : List ℕ) : Type 0 where
  pub no_shorter : length s.synced ≤ length bytes
  pub no_longer : length bytes ≤ reach (length s.synced) s.spans
  pub same : (i : ℕ) → i < length s.synced → list_any (covers i) s.spans ≡ false → slice_index bytes i
      ≡ slice_index s.synced i

-- what reads give, what is durable, and what was durable earlier, newest first
pub record DiskState : Type 0 where
  pub bytes : List ℕ
  pub stable : Stable
  pub past : List Stable

-- all that was written is durable
abbrev pub settled : List ℕ → Stable
settled bytes = record { synced = bytes; spans = [] }

-- a disk of these bytes, to which nothing has happened
abbrev pub fresh : List ℕ → DiskState
fresh bytes = record { bytes = bytes; stable = settled bytes; past = [] }

-- bytes with others written over them from a place on
abbrev pub overwritten : List ℕ → ℕ → List ℕ → List ℕ
overwritten bytes at put = take at bytes ++ put ++ drop (at + length put) bytes

-- a write was begun, and left these bytes
abbrev pub begun : DiskState → ℕ → ℕ → List ℕ → DiskState
begun d at stop bytes = record {
  bytes = bytes;
  stable = record { synced = d.stable.synced; spans = record { start = at; stop = stop } ∷ d.stable.spans };
  past = d.stable ∷ d.past;
}

-- all was written
abbrev pub written : DiskState → ℕ → List ℕ → DiskState
written d at put = begun d at (at + length put) (overwritten d.bytes at put)

-- all was made durable
abbrev pub synced : DiskState → DiskState
synced d = record { bytes = d.bytes; stable = settled d.bytes; past = d.stable ∷ d.past }

-- what a write that fails midway may leave: the bytes are as before except in `at` to `stop - 1`
pub record IsTorn (at stop : ℕ) (old new : List ℕ) : Type 0 where
  pub no_shorter : length old ≤ length new
  pub no_longer : length new ≤ max stop (length old)
  pub same : (i : ℕ) → i < length old → covers i (record { start = at; stop = stop }) ≡ false → slice_index new i
      ≡ slice_index old i

-- a write wrote everything; or it failed, before it was begun or after
abbrev pub WritesDisk : {E : Type 0} → Result ⊤ E → ℕ → List ℕ → DiskState → DiskState → Type 0
WritesDisk (Ok done) at put old new = new ≡ written old at put
WritesDisk (Err fault) at put old new =
    (new ≡ old) ⊎ ((torn : List ℕ) × (IsTorn at (at + length put) old.bytes torn
    × (new ≡ begun old at (at + length put) torn)))

-- a sync made everything durable, or it failed and made nothing durable
abbrev pub Syncs : {E : Type 0} → Result ⊤ E → DiskState → DiskState → Type 0
Syncs (Ok done) old new = new ≡ synced old
Syncs (Err fault) old new = new ≡ old

-- ---- moments

-- from one state of a disk to a later one, each image at each moment has this property. The moments are those at both
-- ends, those between the calls of the disk, and those within each call
pub record Throughout (old new : DiskState) (P : List ℕ → Type 0) : Type 0 where
  pub since : List Stable
  pub goes_on : new.past ≡ since ++ old.past
  pub each : AllByRecursion (λ s. (image : List ℕ) → IsImage s image → P image) (new.stable ∷ since)
