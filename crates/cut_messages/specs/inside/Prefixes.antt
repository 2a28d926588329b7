-- What the code finds at the beginning of some bytes.
use Rattle.std.specs.Prelude.{◌≡◌, ◌+◌, ◌≤◌, ◌++◌, ℕ, List, length, take, drop, Some, None}
use Rattle.cut_messages.specs.declared.side.Side.{Side}
use Rattle.cut_messages.specs.declared.message.Message.{Message}
use Rattle.cut_messages.specs.declared.kind.Kind.{Kind}
use Rattle.cut_messages.specs.declared.prefix.Prefix.{Prefix}
use Rattle.cut_messages.specs.declared.prefix.Prefix.TheVariants.{Whole, Wrong, Short}
use Rattle.cut_messages.specs.Frames.{frame, IsMessage, fault_at}
use Rattle.cut_messages.specs.Reading.{HasNoMessage}

-- the message of a kind with the n bytes after the first five as payload
abbrev pub message_in : List ℕ → Kind → ℕ → Message
message_in bytes kind n = record { kind = kind; payload = take n (drop 5 bytes) }

-- a message stands at the beginning
pub record IsWhole (side : Side) (bytes : List ℕ) (kind : Kind) (n : ℕ) : Type 0 where
  pub within : 5 + n ≤ length bytes
  pub message : IsMessage side (message_in bytes kind n)
  pub stands : bytes ≡ frame kind (take n (drop 5 bytes)) ++ drop (5 + n) bytes

-- less than a message is there
pub record IsShort (side : Side) (bytes : List ℕ) : Type 0 where
  pub right : fault_at side bytes ≡ None
  pub none : HasNoMessage side bytes
  pub short : length bytes ≤ 65540

abbrev pub IsPrefixOfFrame : Side → List ℕ → Prefix → Type 0
IsPrefixOfFrame side bytes (Whole kind n) = IsWhole side bytes kind n
IsPrefixOfFrame side bytes (Wrong fault) = fault_at side bytes ≡ Some fault
IsPrefixOfFrame side bytes Short = IsShort side bytes
