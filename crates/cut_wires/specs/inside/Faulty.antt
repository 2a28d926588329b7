-- What only the crate's own clauses and proofs cite, beside specs/Faulty.antt.
use Rattle.std.specs.Prelude.{◌≡◌, ◌<◌, ◌-◌, ℕ, List, length, take, Some, None}
use Rattle.std.specs.Prelude.{Result, Ok, Err, IsErr}
use Rattle.cut_wires.specs.declared.wire.WireFault.{WireFault}
use Rattle.cut_wires.specs.inside.Memory.{HasFailedRead, HasFailedWrite, HasRead, HasWritten}
use Rattle.cut_wires.specs.Faulty.{FaultyWireValue}

-- a read: the one whose turn it is fails and leaves the buffer, and any other is one of the wire in memory
pub record HasReadInTurn (old : FaultyWireValue) (result : Result ℕ WireFault) (was is : List ℕ) (new : FaultyWireValue)
    : Type 0 where
  pub due : old.fail_in ≡ 1 → IsErr result × (is ≡ was) × HasFailedRead old.memory new.memory
  pub other : (old.fail_in ≡ 1 → ⊥) → HasRead old.memory result was is new.memory
  pub counted : new.fail_in ≡ old.fail_in - 1
  pub room : new.room ≡ old.room

-- the room that a write leaves: less by what it took
abbrev pub room_after : ℕ → Result ℕ WireFault → ℕ
room_after room (Ok n) = room - n
room_after room (Err e) = room

-- a write of bytes: with no room for any of some it fails, and no later one is held back. Else it is a write to the
-- wire in memory, of the first bytes for which there is room, or of all if none is held back.
pub record HasWrittenInRoom (old : FaultyWireValue) (result : Result ℕ WireFault) (bytes : List ℕ)
    (new : FaultyWireValue)
    : Type 0 where
  pub full : old.room ≡ Some 0 → 0 < length bytes →
      IsErr result × HasFailedWrite old.memory new.memory × (new.room ≡ None)
  pub part : (room : ℕ) → old.room ≡ Some room → (0 < length bytes → 0 < room) →
      HasWritten old.memory result (take room bytes) new.memory × (new.room ≡ Some (room_after room result))
  pub free : old.room ≡ None → HasWritten old.memory result bytes new.memory × (new.room ≡ None)
  pub turn : new.fail_in ≡ old.fail_in
