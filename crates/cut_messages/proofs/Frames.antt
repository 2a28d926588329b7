-- Frames at the beginning of some bytes.
use Rattle.std.proofs.Common.{◌≡◌, ◌∙◌, ◌≤◌, ◌++◌, ℕ, List, [], ◌∷◌, length, take, drop}
use Rattle.std.proofs.Common.{Option, Some, None, refl, ap, arith, append_assoc}
use Rattle.std.specs.Int.{w32, to_be_bytes, from_be_bytes}
use Rattle.std.proofs.lemmas.Nat.{from_be_bytes-to_be_bytes_4}
use Rattle.std.proofs.lemmas.List.{take_at, drop_at}
use Rattle.cut_messages.specs.declared.kind.Kind.{Kind}
use Rattle.cut_messages.specs.declared.side.Side.{Side}
use Rattle.cut_messages.specs.declared.message.Message.{Message}
use Rattle.cut_messages.specs.declared.fault.StreamFault.{StreamFault}
use Rattle.cut_messages.specs.Kinds.{kind_at}
use Rattle.cut_messages.specs.Frames.{frame_of, IsMessage, fault_after, fault_at}
use Rattle.cut_messages.specs.Reading.{HasNoMessage}

-- what stands after a frame's letter
pub prefix_four : (payload tail : List ℕ)
    → take 4 ((to_be_bytes w32 (length payload) ++ payload) ++ tail) ≡ to_be_bytes w32 (length payload)
prefix_four payload tail = ap (take 4) (append_assoc (to_be_bytes w32 (length payload)) payload tail)
    ∙ take_at (to_be_bytes w32 (length payload)) (payload ++ tail) 4 refl

pub after_four : (payload tail : List ℕ)
    → drop 4 ((to_be_bytes w32 (length payload) ++ payload) ++ tail) ≡ payload ++ tail
after_four payload tail = ap (drop 4) (append_assoc (to_be_bytes w32 (length payload)) payload tail)
    ∙ drop_at (to_be_bytes w32 (length payload)) (payload ++ tail) 4 refl

-- the length that it gives is the payload's
pub length_given : (payload tail : List ℕ) → length payload ≤ 65536
    → from_be_bytes w32 (take 4 ((to_be_bytes w32 (length payload) ++ payload) ++ tail)) ≡ length payload
length_given payload tail short = ap (from_be_bytes w32) (prefix_four payload tail)
    ∙ from_be_bytes-to_be_bytes_4 (length payload) (omega (arith, short))

-- no fault stands where a message does
pub frame_right : (side : Side) (m : Message) (tail : List ℕ) → IsMessage side m
    → fault_at side (frame_of m ++ tail) ≡ None
frame_right side m tail is =
    grind arith

pub no_message : (side : Side) (bytes : List ℕ) (fault : StreamFault) → fault_at side bytes ≡ Some fault
    → HasNoMessage side bytes
no_message side bytes fault wrong m tail is stands =
    let right : fault_at side bytes ≡ None = ap (fault_at side) stands ∙ frame_right side m tail is in cc

-- ---- a fault stays

later_more : (side : Side) (kind : Option Kind) (rest more : List ℕ) (fault : StreamFault)
    → fault_after side kind rest ≡ Some fault → fault_after side kind (rest ++ more) ≡ Some fault
later_more side None rest more fault wrong = wrong
later_more side (Some kind) rest more fault wrong =
    grind arith

pub fault_more : (side : Side) (bytes more : List ℕ) (fault : StreamFault) → fault_at side bytes ≡ Some fault
    → fault_at side (bytes ++ more) ≡ Some fault
fault_more side [] more fault wrong = cc
fault_more side (first ∷ rest) more fault wrong = later_more side (kind_at side first) rest more fault wrong
