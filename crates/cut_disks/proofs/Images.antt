-- What reads give of a disk in memory is an image of it.
use Rattle.std.proofs.Common.{◌≡◌, ◌<◌, ◌+◌, inr, ℕ, false, Err, List, [], ◌∷◌}
use Rattle.std.proofs.Common.{length, get_or, refl, arith, length-append, length-drop}
use Rattle.std.specs.List.{fold}
use Rattle.std.proofs.lemmas.List.{length-take, get_or_append_left, get_or-append_right, get_or-take, get_or-drop}
use Rattle.std.proofs.lemmas.List.Sums.{fold-append}
use Rattle.cut_disks.specs.declared.call.DiskCall.{DiskCall}
use Rattle.cut_disks.specs.declared.call.DiskCall.TheVariants.{Write, Torn, Sync}
use Rattle.cut_disks.specs.declared.faulty_disk.Tear.{Tear}
use Rattle.cut_disks.specs.declared.faulty_disk.Tear.TheVariants.{Nothing, Everything}
use Rattle.cut_disks.specs.inside.Faulty.{torn_call, FailsWith}
use Rattle.cut_disks.specs.Memory.{MemoryDiskValue, state_of, after_call}
use Rattle.cut_disks.specs.inside.Memory.{with_call}
use Rattle.cut_disks.specs.State.{Stable, DiskState, IsImage, IsTorn, WritesDisk, covers, fresh, settled, overwritten}

-- bytes that are wholly durable are the image
pub settled_image : (bytes : List ℕ) → IsImage (settled bytes) bytes
settled_image bytes = record { no_shorter = omega arith; no_longer = omega arith; same = λ i low none. refl }

overwritten_same : (bytes put : List ℕ) (at i : ℕ) → i < length bytes
    → covers i (record { start = at; stop = at + length put }) ≡ false
    → get_or (overwritten bytes at put) i 0 ≡ get_or bytes i 0
overwritten_same bytes put at i low outside =
    grind (arith, length-take, get_or_append_left, length-append, get_or-take, get_or-append_right, get_or-drop)

-- what was written over lies in its span
pub overwritten_torn : (bytes put : List ℕ) (at : ℕ) → IsTorn at (at + length put) bytes (overwritten bytes at put)
overwritten_torn bytes put at =
    grind (arith, length-append, length-take, length-drop, overwritten_same)

pub kept_torn : (bytes : List ℕ) (at stop : ℕ) → IsTorn at stop bytes bytes
kept_torn bytes at stop = record { no_shorter = omega arith; no_longer = omega arith; same = λ i low none. refl }

-- a write that is begun leads from image to image
pub torn_image : (s : Stable) (at stop : ℕ) (bytes torn : List ℕ) → IsImage s bytes → IsTorn at stop bytes torn
    → IsImage (record { synced = s.synced; spans = record { start = at; stop = stop } ∷ s.spans }) torn
torn_image s at stop bytes torn image is = grind arith

-- so does each call
call_image : (d : DiskState) (call : DiskCall) → IsImage d.stable d.bytes
    → IsImage (after_call d call).stable (after_call d call).bytes
call_image d (Write at put) image = torn_image d.stable at (at + length put) d.bytes (overwritten d.bytes at put) image
    (overwritten_torn d.bytes put at)
call_image d (Torn at stop) image = torn_image d.stable at stop d.bytes d.bytes image (kept_torn d.bytes at stop)
call_image d Sync image = settled_image d.bytes

calls_image : (calls : List DiskCall) (d : DiskState) → IsImage d.stable d.bytes
    → IsImage (fold after_call d calls).stable (fold after_call d calls).bytes
calls_image [] d image = image
calls_image (call ∷ calls) d image = calls_image calls (after_call d call) (call_image d call image)

pub reads_are_images : (m : MemoryDiskValue) → IsImage (state_of m).stable (state_of m).bytes
reads_are_images m = calls_image m.calls (fresh m.first) (settled_image m.first)

-- the state after a call more
pub state_more : (m : MemoryDiskValue) (call : DiskCall) → state_of (with_call m call) ≡ after_call (state_of m) call
state_more m call = fold-append after_call (fresh m.first) m.calls (call ∷ [])

torn_writes : {E : Type 0} (tear : Tear) (fault : E) (at : ℕ) (put : List ℕ) (d : DiskState)
    → WritesDisk {E = E} (Err fault) at put d (after_call d (torn_call tear at put))
torn_writes Nothing fault at put d = inr (d.bytes, (kept_torn d.bytes at (at + length put), refl))
torn_writes Everything fault at put d = inr (overwritten d.bytes at put, (overwritten_torn d.bytes put at, refl))

-- a failing write is one of those that a disk may make
pub fails_writes : {E : Type 0} (tear : Tear) (fault : E) (at : ℕ) (put : List ℕ) (old new : MemoryDiskValue)
    → FailsWith (torn_call tear at put) old new → WritesDisk {E = E} (Err fault) at put (state_of old) (state_of new)
fails_writes {E} tear fault at put old new fails =
    grind (arith, state_more old (torn_call tear at put), torn_writes tear fault at put (state_of old))
