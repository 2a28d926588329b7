-- A wire that is made of a reader and a writer, as contracts see it.
use Rattle.std.specs.Prelude.{ℕ, ◌-◌, List, [], length, take, drop, Option, Some, None, unwrap_or, refl}
use Rattle.std.specs.Coded.{Coded, code_by, coded×, coded_ℕ}
use Rattle.cut_wires.specs.Log.{Traffic, WireLog}

-- the reader and the writer; both as they were when the wire was made of them; how many reads gave the end of
-- the input; and how many reads and writes failed
pub record Streams (R W : Type 0) : Type 0 where
  pub input : R
  pub output : W
  pub first : R
  pub held : W
  pub ends : ℕ
  pub failed_reads : ℕ
  pub failed_writes : ℕ

-- it is stored as the tuple of its fields
abbrev pub streams_code : {R W : Type 0} → Coded R → Coded W → Coded (Streams R W)
streams_code {R} {W} r w =
    code_by (R × (W × (R × (W × (ℕ × (ℕ × ℕ))))))
    (coded× r (coded× w (coded× r (coded× w (coded× coded_ℕ (coded× coded_ℕ coded_ℕ))))))
    (λ s. (s.input, (s.output, (s.first, (s.held, (s.ends, (s.failed_reads, s.failed_writes)))))))
    (λ p. record {
      input = p.0;
      output = p.1.0;
      first = p.1.1.0;
      held = p.1.1.1.0;
      ends = p.1.1.1.1.0;
      failed_reads = p.1.1.1.1.1.0;
      failed_writes = p.1.1.1.1.1.1;
    })
    (λ _. refl)

-- a wire of which nothing has been asked yet
abbrev pub new_streams : {R W : Type 0} → R → W → Streams R W
new_streams r w = record {
  input = r;
  output = w;
  first = r;
  held = w;
  ends = 0;
  failed_reads = 0;
  failed_writes = 0;
}

-- the bytes of a reader or a writer, if they are known
abbrev pub known : Option (List ℕ) → List ℕ
known bytes = unwrap_or bytes []

-- what a reader gave, by the bytes that it had and those that it has left
abbrev pub given_of : Option (List ℕ) → Option (List ℕ) → List ℕ
given_of had has = take (length (known had) - length (known has)) (known had)

-- what a writer took, by the bytes that it held and those that it holds
abbrev pub taken_of : Option (List ℕ) → Option (List ℕ) → List ℕ
taken_of held holds = drop (length (known held)) (known holds)

-- something, where the bytes of a reader and those of a writer are known
abbrev pub if_both : {X : Type 0} → Option (List ℕ) → Option (List ℕ) → X → Option X
if_both (Some had) (Some held) x = Some x
if_both had held x = None

module _ {R W : Type 0} (remaining : R → Option (List ℕ)) (contents : W → Option (List ℕ)) where
  -- what passed over the wire
  abbrev pub traffic_of : Streams R W → Traffic
  traffic_of s = record {
    taken = taken_of (contents s.held) (contents s.output);
    given = given_of (remaining s.first) (remaining s.input);
    ends = s.ends;
  }

  -- what passed is known if the bytes of both were when the wire was made of them
  abbrev pub log_of : Streams R W → WireLog
  log_of s = record {
    traffic = if_both (remaining s.first) (contents s.held) (traffic_of s);
    failed = record { reads = s.failed_reads; writes = s.failed_writes };
  }
