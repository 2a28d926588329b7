-- Where the gates of slips stand.
use Rattle.std.proofs.Common.{◌≡◌, ◌≤◌, ◌+◌, ◌*◌, ℕ, length, arith}
use Rattle.cut_fields.specs.declared.version.Version.{Version}
use Rattle.cut_fields.specs.declared.version.Version.TheVariants.{One, Two}
use Rattle.cut_plan.specs.Failing.{version_of}
use Rattle.cut_plan.specs.Values.{Values}
use Rattle.cut_plan.specs.Canonical.{canonical_text}
use Rattle.cut_journal.specs.File.{numbers_length, slip_length}
use Rattle.cut_journal.specs.inside.Places.{gate_place}

-- a slip has nine numbers at least
pub nine_numbers : (version : Version) → 72 ≤ numbers_length version
nine_numbers One = omega arith
nine_numbers Two = omega arith

gates_at : (version : Version) (text i : ℕ) → (text + 45 + slip_length version * 0 ≡ text + 45)
    × (text + 45 + slip_length version * (i + 1) ≡ text + 45 + slip_length version * i + slip_length version)
    × (i + 45 ≤ text + 45 + slip_length version * i)
gates_at One text i = (omega arith, omega arith, omega arith)
gates_at Two text i = (omega arith, omega arith, omega arith)

grows_at : (version : Version) (text i k : ℕ) → i ≤ k → text + 45 + slip_length version * i ≤ text + 45
    + slip_length version * k
grows_at One text i k low = omega arith
grows_at Two text i k low = omega arith

-- the first gate
pub gate_first : (v : Values) → gate_place v 0 ≡ length (canonical_text v) + 45
unfolding gate_place
gate_first v = (gates_at (version_of v.failing) (length (canonical_text v)) 0).0

-- the gate after a slip's
pub gate_next : (v : Values) (i : ℕ) → gate_place v (i + 1) ≡ gate_place v i + slip_length (version_of v.failing)
unfolding gate_place
gate_next v i = (gates_at (version_of v.failing) (length (canonical_text v)) i).1

-- there are fewer slips before a gate than bytes
pub gate_far : (v : Values) (i : ℕ) → i + 45 ≤ gate_place v i
unfolding gate_place
gate_far v i = (gates_at (version_of v.failing) (length (canonical_text v)) i).2

-- a later gate
pub gate_grows : (v : Values) (i k : ℕ) → i ≤ k → gate_place v i ≤ gate_place v k
unfolding gate_place
gate_grows v i k low = grows_at (version_of v.failing) (length (canonical_text v)) i k low
