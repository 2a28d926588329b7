-- Laws of the statuses of bytes.
use Rattle.std.specs.Prelude.{◌≡◌, ℕ, List}
use Rattle.cut_status.specs.declared.fault.StatusFault.{StatusFault}
use Rattle.cut_status.specs.declared.fault.StatusFault.TheVariants.{Memory}
use Rattle.cut_status.specs.Status.{StatusValue}
use Rattle.cut_status.specs.Study.{IsStatusOf, IsStatusFault}

-- bytes have one status at most
abbrev pub StatusesAreOne : Type 0
StatusesAreOne = (bytes : List ℕ) (s t : StatusValue) → IsStatusOf bytes s → IsStatusOf bytes t → s ≡ t

-- and if they have one, no fault says anything of them but that memory ran out
abbrev pub FaultsAreOfOthers : Type 0
FaultsAreOfOthers =
    (bytes : List ℕ) (s : StatusValue) (e : StatusFault) → IsStatusOf bytes s → IsStatusFault bytes e → e ≡ Memory
