-- What of a `KeptSlips` contracts see, and what is always true of it.
use Rattle.std.specs.Prelude.{◌≡◌, ◌+◌, ◌-◌, ◌<◌, length, drop}
use Rattle.cut_journal.specs.declared.kept_slips.KeptSlips.TheInside.{Inside}
use Rattle.cut_journal.specs.Reading.{slips_in}
use Rattle.cut_journal.specs.Unread.{Unread}
use Rattle.cut_journal.specs.inside.Places.{gate_place}

-- the slips from the gate on: as many as bytes at most, without those before it
abbrev pub unread_of : Inside → Unread
unread_of k = record {
  slips = slips_in k.study (length k.bytes.now - k.gate.number) (k.gate.number + 1) (drop k.gate.place k.bytes.now);
  left = length k.bytes.now - k.gate.place;
}

-- it is at a gate of the file
pub record IsAtGate (k : Inside) : Type 0 where
  pub place : k.gate.place ≡ gate_place k.study k.gate.number
  pub within : k.gate.place < length k.bytes.now
