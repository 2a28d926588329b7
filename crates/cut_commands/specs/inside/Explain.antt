-- What is written after an explanation.
use Rattle.std.specs.Prelude.{◌≡◌, ◌+◌, ◌<◌, ℕ, List, length, take, Result, Ok, Err, ⊤}
use Rattle.cut_wires.specs.Log.{WireLog, wrote, write_failed}
use Rattle.cut_commands.specs.declared.fault.CliFault.{CliFault}
use Rattle.cut_commands.specs.declared.fault.CliFault.TheVariants.{Write}

-- some bytes were written after others, or fewer of their first bytes when a write failed, whose fault counts the bytes before
-- too
abbrev pub IsWrittenAfter : List ℕ → Result ⊤ CliFault → WireLog → WireLog → Type 0
IsWrittenAfter before (Ok done) old new = (line : List ℕ) × (new ≡ wrote old line)
IsWrittenAfter before (Err (Write fault)) old new =
    (line : List ℕ) × (n : ℕ) × (fault.sent ≡ length before + n) × (n < length line)
    × (new ≡ write_failed (wrote old (take n line)))
IsWrittenAfter before (Err fault) old new = ⊥
