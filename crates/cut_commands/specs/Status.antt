-- What `status` writes of a checkpoint.
use Rattle.std.specs.Prelude.{◌≡◌, ◌⊎◌, List, ℕ, Result, Err, ⊤}
use Rattle.cut_status.specs.declared.fault.StatusFault.{StatusFault}
use Rattle.cut_status.specs.Status.{StatusValue, status_text}
use Rattle.cut_status.specs.Study.{IsStatusOf, IsStatusFault}
use Rattle.cut_files.specs.Place.{Place, IsContent, MayNotRead}
use Rattle.cut_files.specs.declared.files.OpenFault.{OpenFault}
use Rattle.cut_wires.specs.Log.{WireLog}
use Rattle.cut_commands.specs.Faults.{fault_of_files, fault_of_status}
use Rattle.cut_commands.specs.Run.{IsWritten}
use Rattle.cut_commands.specs.declared.fault.CliFault.{CliFault}

-- the answer to bytes: the lines of their status
abbrev pub IsStatusText : List ℕ → List ℕ → Type 0
IsStatusText bytes whole = (status : StatusValue) × (IsStatusOf bytes status × (whole ≡ status_text status))

-- how it ends over bytes: the answer was written, or as many of its first bytes as are reported when a write failed; or
-- they have no status, and nothing was written
abbrev pub EndsOver : List ℕ → WireLog → WireLog → Result ⊤ CliFault → Type 0
EndsOver bytes old new result =
    ((whole : List ℕ) × (IsStatusText bytes whole × IsWritten whole result old new))
    ⊎ ((fault : StatusFault) × (IsStatusFault bytes fault × (result ≡ Err (fault_of_status fault)) × (new ≡ old)))

-- ---- over a file

-- how it ends over what stands at a path: over the bytes that were read there, which are those of the file if they are
-- known; or none were read, and nothing was written
abbrev pub EndsStatus : Place → WireLog → WireLog → Result ⊤ CliFault → Type 0
EndsStatus place old new result =
    ((bytes : List ℕ) × (IsContent bytes place × EndsOver bytes old new result))
    ⊎ ((fault : OpenFault) × (MayNotRead fault place × (result ≡ Err (fault_of_files fault)) × (new ≡ old)))
