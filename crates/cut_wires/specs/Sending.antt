-- A counting writer over a wire as contracts see it, and what is sent over it.
use Rattle.std.specs.Prelude.{◌≡◌, ◌+◌, ◌-◌, ◌^◌, ◌<◌, ℕ, List, length, min, take, Result, Ok, Err, ⊤}
use Rattle.std.specs.Borrow.{GName}
use Rattle.cut_wires.specs.declared.counting_writer.CountingWriter.{CountingWriter}
use Rattle.cut_wires.specs.declared.send.Sent.{Sent}
use Rattle.cut_wires.specs.Log.{WireLog, wrote, gave, read_failed, write_failed}

-- the wire that a counting writer borrows, that wire's log, and how many bytes were sent by it, a count that stays at
-- 2^64 - 1
pub record Sending : Type 0 where
  pub wire : GName
  pub log : WireLog
  pub sent : ℕ

abbrev pub sending : {W : Type 0} → (W → WireLog) → CountingWriter W → Sending
sending log writer = record { wire = writer.wire.ghost_name; log = log writer.wire.now; sent = writer.sent }

-- these bytes were sent
abbrev pub sent_on : Sending → List ℕ → Sending
sent_on s bytes = record {
  wire = s.wire;
  log = wrote s.log bytes;
  sent = min (s.sent + length bytes) (2 ^ 64 - 1);
}

-- a write failed
abbrev pub cut_off : Sending → Sending
cut_off s = record { wire = s.wire; log = write_failed s.log; sent = s.sent }

-- the wire gave the first n bytes of a buffer
abbrev pub got_on : Sending → List ℕ → ℕ → Sending
got_on s buffer n = record { wire = s.wire; log = gave s.log buffer n; sent = s.sent }

-- a read gave these, or failed
abbrev pub Receives : {E : Type 0} → Result ℕ E → List ℕ → Sending → Sending → Type 0
Receives (Ok n) buffer old new = new ≡ got_on old buffer n
Receives (Err fault) buffer old new = new ≡ record { wire = old.wire; log = read_failed old.log; sent = old.sent }

-- some first bytes of these were sent, and not all, when a write failed
abbrev pub IsCut : List ℕ → Sending → Sending → Type 0
IsCut bytes old new = (n : ℕ) × (n < length bytes) × (new ≡ cut_off (sent_on old (take n bytes)))

-- all of some bytes were sent, or a write failed before that, and the fault has the count of bytes
abbrev pub Sends : Result ⊤ Sent → List ℕ → Sending → Sending → Type 0
Sends (Ok done) bytes old new = new ≡ sent_on old bytes
Sends (Err fault) bytes old new = (fault.sent ≡ new.sent) × IsCut bytes old new
