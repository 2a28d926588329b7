-- What a stream says, and what a reader has made of it so far.
use Rattle.std.specs.Prelude.{◌≡◌, ◌++◌, ℕ, List, [], ◌∷◌, Option, Some, None, Result, Ok, Err, ⊤}
use Rattle.std.specs.List.{AllByRecursion, flat_map}
use Rattle.cut_messages.specs.declared.side.Side.{Side}
use Rattle.cut_messages.specs.declared.message.Message.{Message}
use Rattle.cut_messages.specs.declared.fault.StreamFault.{StreamFault}
use Rattle.cut_messages.specs.declared.fault.EndFault.{EndFault}
use Rattle.cut_messages.specs.declared.fault.EndFault.TheVariants.{Stream, Truncated}
use Rattle.cut_messages.specs.Frames.{frame_of, IsMessage, fault_at}

-- some bytes begin with no whole message
abbrev pub HasNoMessage : Side → List ℕ → Type 0
HasNoMessage side bytes =
    (m : Message) (tail : List ℕ) → IsMessage side m → bytes ≡ frame_of m ++ tail → ⊥

-- the messages of a stream, as it is so far: their frames stand at its beginning, one after another,
-- each may go this way, and no whole message comes after them
pub record Splits (side : Side) (stream : List ℕ) (messages : List Message) (rest : List ℕ)
    : Type 0 where
  pub whole : stream ≡ flat_map frame_of messages ++ rest
  pub each : AllByRecursion (IsMessage side) messages
  pub last : HasNoMessage side rest

-- a reader as contracts see it: which way its stream goes, the bytes that it holds of a message
-- that is not whole, and the fault that it met
pub record Reading : Type 0 where
  pub side : Side
  pub held : List ℕ
  pub fault : Option StreamFault

-- a reader of nothing yet
abbrev pub fresh : Side → Reading
fresh side = record { side = side; held = []; fault = None }

-- a reader was fed this stream, in whatever pieces, and gave these messages: they are the stream's; the fault is that
-- after them; and if there is none, the bytes after them are held
pub record HasReadFrames (r : Reading) (stream : List ℕ) (messages : List Message) : Type 0 where
  pub rest : List ℕ
  pub splits : Splits r.side stream messages rest
  pub fault : r.fault ≡ fault_at r.side rest
  pub held : r.fault ≡ None → r.held ≡ rest

-- why the stream of a reader may not end here: the fault that stands in it, or a message that is
-- not whole
abbrev pub end_of : Option StreamFault → List ℕ → Result ⊤ EndFault
end_of (Some fault) held = Err (Stream fault)
end_of None [] = Ok tt
end_of None (byte ∷ held) = Err Truncated
