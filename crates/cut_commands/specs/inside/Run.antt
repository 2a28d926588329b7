-- What only the crate's own clauses and proofs cite, beside specs/Run.antt.
use Rattle.std.specs.Prelude.{◌≡◌, ◌<◌, ◌≤◌, ℕ, false, List, length, take, nat_lt}
use Rattle.std.specs.Prelude.{Result, Ok, Err, Vec}
use Rattle.cut_wires.specs.Log.{WireLog, read_failed}
use Rattle.cut_commands.specs.declared.fault.CliFault.{CliFault}
use Rattle.cut_commands.specs.declared.fault.CliFault.TheVariants.{Read}
use Rattle.cut_commands.specs.Run.{read_on}

-- a text in place of the vector that holds it
abbrev pub text_of : {A : Type 0} → Result (Vec ℕ A) CliFault → Result (List ℕ) CliFault
text_of (Ok text) = Ok text.items
text_of (Err fault) = Err fault

-- what filling a buffer of this length leaves: its first bytes were read
abbrev pub FillsFrom : ℕ → Result ℕ CliFault → List ℕ → WireLog → WireLog → Type 0
FillsFrom room (Ok n) buffer old new = (n ≤ length buffer) × (new ≡ read_on (take n buffer) (nat_lt n room) old)
FillsFrom room (Err Read) buffer old new =
    (bytes : List ℕ) × (length bytes < room) × (new ≡ read_failed (read_on bytes false old))
FillsFrom room (Err fault) buffer old new = ⊥
