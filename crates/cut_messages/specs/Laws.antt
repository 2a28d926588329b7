-- Laws of streams of messages.
use Rattle.std.specs.Prelude.{◌≡◌, ◌+◌, ◌*◌, ◌≤◌, ◌++◌, ℕ, List, length, Some}
use Rattle.cut_messages.specs.declared.side.Side.{Side}
use Rattle.cut_messages.specs.declared.message.Message.{Message}
use Rattle.cut_messages.specs.declared.fault.StreamFault.{StreamFault}
use Rattle.cut_messages.specs.Frames.{fault_at}
use Rattle.cut_messages.specs.Reading.{HasNoMessage, Splits}

-- two readings of one stream are one
abbrev pub ReadingsAgree : Type 0
ReadingsAgree = (side : Side) (stream : List ℕ) (ms ns : List Message) (r s : List ℕ) →
    Splits side stream ms r → Splits side stream ns s → (ms ≡ ns) × (r ≡ s)

-- a stream has from 5 to 65,541 bytes for each of its messages, and those after them
abbrev pub MessagesTakeRoom : Type 0
MessagesTakeRoom = (side : Side) (stream : List ℕ) (ms : List Message) (r : List ℕ) →
    Splits side stream ms r →
    (5 * length ms + length r ≤ length stream) × (length stream ≤ 65541 * length ms + length r)

-- a fault at the beginning of some bytes stays there whatever comes after them, and no message stands
-- there
abbrev pub FaultsStay : Type 0
FaultsStay = (side : Side) (bytes more : List ℕ) (fault : StreamFault)
    → fault_at side bytes ≡ Some fault → (fault_at side (bytes ++ more) ≡ Some fault) × HasNoMessage side bytes
