-- What `explain` leaves on its wire.
use Rattle.std.specs.Prelude.{◌≡◌, ◌⊎◌, ◌<◌, ℕ, Bool, false, List, [], length, take, Result, Ok, Err, ⊤}
use Rattle.std.specs.Io.{StartsWith}
use Rattle.cut_commands.specs.declared.input.TheConstants.{TEXT_LIMIT}
use Rattle.cut_plan.specs.Accepted.{plan_of}
use Rattle.cut_plan.specs.Values.{Values}
use Rattle.cut_explain.specs.FirstLine.{first_line}
use Rattle.cut_commands.specs.Run.{IsReadThrough, IsReadPartly}
use Rattle.cut_commands.specs.declared.fault.CliFault.{CliFault}
use Rattle.cut_commands.specs.declared.fault.CliFault.TheVariants.{Memory, Plan, Read, Write}

-- an explanation of a text begins with the line that says whether it is a plan, or its first fault
abbrev pub IsExplanation : List ℕ → List ℕ → Type 0
IsExplanation text whole = StartsWith whole (first_line (plan_of text))

-- what was written, having read a text: an explanation, at Ok of a plan, and if the fault is that of the text; some
-- first bytes of one if a write failed; and nothing if a read failed, or memory ran out
abbrev pub Explains : List ℕ → Bool → Result ⊤ CliFault → List ℕ → Type 0
Explains text ended (Ok done) written =
    IsReadThrough TEXT_LIMIT text ended × ((v : Values) × (plan_of text ≡ Ok v)) × IsExplanation text written
Explains text ended (Err (Plan refusal)) written =
    IsReadThrough TEXT_LIMIT text ended × (plan_of text ≡ Err refusal) × IsExplanation text written
Explains text ended (Err (Write fault)) written =
    IsReadThrough TEXT_LIMIT text ended
    × ((whole : List ℕ) × IsExplanation text whole × (written ≡ take fault.sent whole) × (fault.sent < length whole))
Explains text ended (Err Read) written = IsReadPartly TEXT_LIMIT text ended × (written ≡ [])
Explains text ended (Err Memory) written =
    (((text ≡ []) × (ended ≡ false)) ⊎ IsReadThrough TEXT_LIMIT text ended) × (written ≡ [])
Explains text ended (Err fault) written = ⊥
