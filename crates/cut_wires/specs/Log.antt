-- What passes over a wire by its calls, and how many of them fail.
use Rattle.std.specs.Prelude.{◌≡◌, ◌+◌, ◌-◌, ◌^◌, ◌<◌, ◌==◌, ℕ, List, [], ◌++◌, length, min, take}
use Rattle.std.specs.Prelude.{Option, option_map, Result, Ok, Err, ⊤, if◌then◌else◌}
use Rattle.cut_faults.specs.Failures.{one_more}
use Rattle.cut_wires.specs.declared.send.Sent.{Sent}

-- ---- what passed

-- the bytes that a wire's writes took, those that its reads gave, and how many reads gave the input's end
pub record Traffic : Type 0 where
  pub taken : List ℕ
  pub given : List ℕ
  pub ends : ℕ

-- nothing has passed yet
abbrev pub no_traffic : Traffic
no_traffic = record { taken = []; given = []; ends = 0 }

-- with these bytes taken after the others
abbrev pub with_taken : Traffic → List ℕ → Traffic
with_taken t bytes = record { taken = t.taken ++ bytes; given = t.given; ends = t.ends }

-- with a read that gave the first n bytes of its buffer, of which none are the end of the input
abbrev pub with_given : Traffic → List ℕ → ℕ → Traffic
with_given t buffer n = record {
  taken = t.taken;
  given = t.given ++ take n buffer;
  ends = if n == 0 then one_more t.ends else t.ends;
}

-- ---- calls that fail

-- how many of a wire's reads failed, and how many of its writes; at 2^64 - 1 a count stays
pub record Failed : Type 0 where
  pub reads : ℕ
  pub writes : ℕ

-- no call has failed yet
abbrev pub none_failed : Failed
none_failed = record { reads = 0; writes = 0 }

-- with one more read that failed, and with one more write
abbrev pub with_read : Failed → Failed
with_read f = record { reads = one_more f.reads; writes = f.writes }

abbrev pub with_write : Failed → Failed
with_write f = record { reads = f.reads; writes = one_more f.writes }

-- how many calls failed, as one number, which stays at 2^64 - 1 too
abbrev pub all_failed : Failed → ℕ
all_failed f = min (f.reads + f.writes) (2 ^ 64 - 1)

-- ---- both

-- what passed over a wire, if that is known, and the calls that failed
pub record WireLog : Type 0 where
  pub traffic : Option Traffic
  pub failed : Failed

-- a log in which what passed is changed
abbrev pub passing : (Traffic → Traffic) → WireLog → WireLog
passing f l = record { traffic = option_map f l.traffic; failed = l.failed }

-- writes took these bytes
abbrev pub wrote : WireLog → List ℕ → WireLog
wrote l bytes = passing (λ t. record t { taken = t.taken ++ bytes }) l

-- a read gave the first n bytes of its buffer
abbrev pub gave : WireLog → List ℕ → ℕ → WireLog
gave l buffer n = passing (λ t. with_given t buffer n) l

-- one more read failed, and one more write
abbrev pub read_failed : WireLog → WireLog
read_failed l = record l { failed = record l.failed { reads = one_more l.failed.reads } }

abbrev pub write_failed : WireLog → WireLog
write_failed l = record l { failed = record l.failed { writes = one_more l.failed.writes } }

-- ---- calls

-- a write took the first n of some bytes, or failed and took none
abbrev pub WritesWire : {E : Type 0} → Result ℕ E → List ℕ → WireLog → WireLog → Type 0
WritesWire (Ok n) put old new = new ≡ wrote old (take n put)
WritesWire (Err e) put old new = new ≡ write_failed old

-- a read left n bytes in the first places of the buffer, or failed and gave none
abbrev pub Reads : {E : Type 0} → Result ℕ E → List ℕ → WireLog → WireLog → Type 0
Reads (Ok n) buffer old new = new ≡ gave old buffer n
Reads (Err e) buffer old new = new ≡ read_failed old

-- all of some bytes were written; or a write failed, after exactly as many of the first as are reported
abbrev pub SendsAll : Result ⊤ Sent → List ℕ → WireLog → WireLog → Type 0
SendsAll (Ok done) bytes old new = new ≡ wrote old bytes
SendsAll (Err fault) bytes old new =
    (new ≡ write_failed (wrote old (take fault.sent bytes))) × (fault.sent < length bytes)
