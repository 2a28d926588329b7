-- Messages as they stand in a stream (this project's format), and what is wrong with bytes that are
-- no message. Numbers are written with the high byte first.
use Rattle.std.specs.Prelude.{◌≡◌, ◌≤◌, ◌++◌, ℕ, List, [], ◌∷◌, length, take, nat_lt}
use Rattle.std.specs.Prelude.{Option, Some, None}
use Rattle.std.specs.Prelude.{if◌then◌else◌, IsTrue}
use Rattle.std.specs.Int.{w32, to_be_bytes, from_be_bytes}
use Rattle.cut_messages.specs.declared.side.TheConstants.{LONGEST_PAYLOAD}
use Rattle.cut_messages.specs.declared.kind.Kind.{Kind}
use Rattle.cut_messages.specs.declared.side.Side.{Side}
use Rattle.cut_messages.specs.declared.message.Message.{Message}
use Rattle.cut_messages.specs.declared.fault.StreamFault.{StreamFault}
use Rattle.cut_messages.specs.declared.fault.StreamFault.TheVariants.{BadKind, TooLong, BadLength}
use Rattle.cut_messages.specs.Kinds.{byte_of, kind_at, length_of, fits}

-- a frame: the kind's letter, the payload's length in four bytes, the payload
abbrev pub frame : Kind → List ℕ → List ℕ
frame kind payload = byte_of kind ∷ (to_be_bytes w32 (length payload) ++ payload)

abbrev pub frame_of : Message → List ℕ
frame_of m = frame m.kind m.payload

-- a message that may go this way: its letter stands for its kind there, and its payload is not too
-- long, and as long as one of its kind has to be
pub record IsMessage (side : Side) (m : Message) : Type 0 where
  pub kind : kind_at side (byte_of m.kind) ≡ Some m.kind
  pub short : length m.payload ≤ LONGEST_PAYLOAD
  pub fits : IsTrue (fits (length_of side m.kind) (length m.payload))

-- what is wrong with a payload's length, where payloads of its kind have these lengths: first that
-- it is too long for any, then that it is wrong for the kind
abbrev pub length_fault : Option ℕ → ℕ → Option StreamFault
length_fault right n =
    if nat_lt LONGEST_PAYLOAD n then Some TooLong else (if fits right n then None else Some BadLength)

-- what is wrong with a message after its first byte, which stands for this kind, if for any: first
-- that it is no kind; then, once the four bytes of the length are there, the length
abbrev pub fault_after : Side → Option Kind → List ℕ → Option StreamFault
fault_after side None rest = Some BadKind
fault_after side (Some kind) rest =
    if nat_lt (length rest) 4 then None
    else length_fault (length_of side kind) (from_be_bytes w32 (take 4 rest))

-- the fault that some bytes begin with, if there is one, as soon as these bytes show it
abbrev pub fault_at : Side → List ℕ → Option StreamFault
fault_at side [] = None
fault_at side (first ∷ rest) = fault_after side (kind_at side first) rest
