-- What only the crate's own clauses and proofs cite, beside specs/Memory.antt.
use Rattle.std.specs.Prelude.{◌≡◌, ◌<◌, ◌++◌, ℕ, List, length, take, drop, min, Result, Ok, Err}
use Rattle.cut_wires.specs.declared.wire.WireFault.{WireFault}
use Rattle.cut_wires.specs.Log.{with_taken, with_given, with_read, with_write}
use Rattle.cut_wires.specs.Memory.{MemoryWireValue}

-- the bytes of the input that no read has given
abbrev pub rest_of : MemoryWireValue → List ℕ
rest_of m = drop (length m.traffic.given) m.input

-- how many bytes a read moves to a buffer of this length: as many as are left, a call moves, and it holds
abbrev pub read_moves : MemoryWireValue → ℕ → ℕ
read_moves m room = min (min (length (rest_of m)) m.per) room

-- a read failed: that is one failure more, and nothing else
abbrev pub HasFailedRead : MemoryWireValue → MemoryWireValue → Type 0
HasFailedRead old new = new ≡ record old { failed = with_read old.failed }

-- and so for a write
abbrev pub HasFailedWrite : MemoryWireValue → MemoryWireValue → Type 0
HasFailedWrite old new = new ≡ record old { failed = with_write old.failed }

-- a read to a buffer, by what it was and what it is: the next bytes of the input come into its first places, and
-- what comes after them stays. It fails exactly where a call moves none, and then all of it stays.
abbrev pub HasRead : MemoryWireValue → Result ℕ WireFault → List ℕ → List ℕ → MemoryWireValue → Type 0
HasRead old (Ok n) was is new =
    (0 < old.per) × (n ≡ read_moves old (length was)) × (is ≡ take n (rest_of old) ++ drop n was)
    × (new ≡ record old { traffic = with_given old.traffic is n })
HasRead old (Err e) was is new = (old.per ≡ 0) × (is ≡ was) × HasFailedRead old new

-- a write of bytes: as many of the first are taken as a call moves. A write of none never fails; another fails where a
-- call moves none, and else only if memory runs out.
abbrev pub HasWritten : MemoryWireValue → Result ℕ WireFault → List ℕ → MemoryWireValue → Type 0
HasWritten old (Ok n) bytes new =
    (n ≡ min (length bytes) old.per) × (0 < length bytes → 0 < n)
    × (new ≡ record old { traffic = with_taken old.traffic (take n bytes) })
HasWritten old (Err e) bytes new = (0 < length bytes) × HasFailedWrite old new
