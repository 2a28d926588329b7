-- The program's list of faults, as this project defines them: number, name and exit status.
use Rattle.std.specs.Prelude.{ℕ, ◌==◌, ◌++◌, List, [], ◌∷◌, codes, Option}
use Rattle.std.specs.List.{find}
use Rattle.std.specs.Option.{option_map_or}
use Rattle.std.specs.Fmt.{decimal}
use Rattle.cut_faults.specs.declared.code.FaultCode.{FaultCode}
use Rattle.cut_faults.specs.declared.code.FaultCode.TheVariants.{Memory, NotJson, NotObject, UnknownField, MissingField}
use Rattle.cut_faults.specs.declared.code.FaultCode.TheVariants.{WrongKind, OutOfRange, NotRising, NoCell}
use Rattle.cut_faults.specs.declared.code.FaultCode.TheVariants.{TooManyFaults, TooManyTrials, NotPermutation, TooFew}
use Rattle.cut_faults.specs.declared.code.FaultCode.TheVariants.{BadRole, BadPiece, Stranger, Overlap, BadSlip, NotDone}
use Rattle.cut_faults.specs.declared.code.FaultCode.TheVariants.{PlanTooLong, Disk, Broken, NoStudy, OtherPlan, Damaged}
use Rattle.cut_faults.specs.declared.code.FaultCode.TheVariants.{Held, NoSlot, SeatFull, SeatMissing, SlotsFull}
use Rattle.cut_faults.specs.declared.code.FaultCode.TheVariants.{Checkpoint, Write, WorkMemory, AuditMismatch, Stopped}
use Rattle.cut_faults.specs.declared.code.FaultCode.TheVariants.{BadKind, TooLong, Truncated, Read, TooManyRequests}
use Rattle.cut_faults.specs.declared.code.FaultCode.TheVariants.{BadLength, Disagrees, NotVersion1}

-- a row of the list: the fault's number, its name, and the exit status of a command that ended with it
pub record FaultRow : Type 0 where
  pub number : ℕ
  pub name : List ℕ
  pub status : ℕ

abbrev pub row : ℕ → List ℕ → ℕ → FaultRow
row number name status = record { number = number; name = name; status = status }

-- the list. A command ends with 3 if a plan was refused, with 5 if memory ran out, and with 4 at any other fault. Two
-- faults, of a call and of a running study, both say that memory ran out
abbrev pub row_of : FaultCode → FaultRow
row_of Memory = row 0 (codes "Memory") 5
row_of NotJson = row 1 (codes "NotJson") 3
row_of NotObject = row 2 (codes "NotObject") 3
row_of UnknownField = row 3 (codes "UnknownField") 3
row_of MissingField = row 4 (codes "MissingField") 3
row_of WrongKind = row 5 (codes "WrongKind") 3
row_of OutOfRange = row 6 (codes "OutOfRange") 3
row_of NotRising = row 7 (codes "NotRising") 3
row_of NoCell = row 8 (codes "NoCell") 3
row_of TooManyFaults = row 9 (codes "TooManyFaults") 3
row_of TooManyTrials = row 10 (codes "TooManyTrials") 3
row_of NotPermutation = row 11 (codes "NotPermutation") 4
row_of TooFew = row 12 (codes "TooFew") 4
row_of BadRole = row 13 (codes "BadRole") 4
row_of BadPiece = row 14 (codes "BadPiece") 4
row_of Stranger = row 15 (codes "Stranger") 4
row_of Overlap = row 16 (codes "Overlap") 4
row_of BadSlip = row 17 (codes "BadSlip") 4
row_of NotDone = row 18 (codes "NotDone") 4
row_of PlanTooLong = row 19 (codes "PlanTooLong") 3
row_of Disk = row 20 (codes "Disk") 4
row_of Broken = row 21 (codes "Broken") 4
row_of NoStudy = row 22 (codes "NoStudy") 4
row_of OtherPlan = row 23 (codes "OtherPlan") 4
row_of Damaged = row 24 (codes "Damaged") 4
row_of Held = row 25 (codes "Held") 4
row_of NoSlot = row 26 (codes "NoSlot") 4
row_of SeatFull = row 27 (codes "SeatFull") 4
row_of SeatMissing = row 28 (codes "SeatMissing") 4
row_of SlotsFull = row 29 (codes "SlotsFull") 4
row_of Checkpoint = row 30 (codes "Checkpoint") 4
row_of Write = row 31 (codes "Write") 4
row_of WorkMemory = row 32 (codes "Memory") 5
row_of AuditMismatch = row 33 (codes "AuditMismatch") 4
row_of Stopped = row 34 (codes "Stopped") 4
row_of BadKind = row 40 (codes "BadKind") 4
row_of TooLong = row 41 (codes "TooLong") 4
row_of Truncated = row 42 (codes "Truncated") 4
row_of Read = row 43 (codes "Read") 4
row_of TooManyRequests = row 44 (codes "TooManyRequests") 4
row_of BadLength = row 45 (codes "BadLength") 4
row_of Disagrees = row 46 (codes "Disagrees") 4
row_of NotVersion1 = row 47 (codes "NotVersion1") 3

abbrev pub number_of : FaultCode → ℕ
number_of code = (row_of code).number

abbrev pub name_of : FaultCode → List ℕ
name_of code = (row_of code).name

abbrev pub status_of : FaultCode → ℕ
status_of code = (row_of code).status

-- every fault, by number
unfoldable pub all_codes : List FaultCode
all_codes = Memory ∷ NotJson ∷ NotObject ∷ UnknownField ∷ MissingField ∷ WrongKind ∷ OutOfRange ∷ NotRising ∷ NoCell
    ∷ TooManyFaults ∷ TooManyTrials ∷ NotPermutation ∷ TooFew ∷ BadRole ∷ BadPiece ∷ Stranger ∷ Overlap ∷ BadSlip
    ∷ NotDone ∷ PlanTooLong ∷ Disk ∷ Broken ∷ NoStudy ∷ OtherPlan ∷ Damaged ∷ Held ∷ NoSlot ∷ SeatFull ∷ SeatMissing
    ∷ SlotsFull ∷ Checkpoint ∷ Write ∷ WorkMemory ∷ AuditMismatch ∷ Stopped ∷ BadKind ∷ TooLong ∷ Truncated ∷ Read
    ∷ TooManyRequests ∷ BadLength ∷ Disagrees ∷ NotVersion1 ∷ []

-- the fault with a number
abbrev pub code_numbered : ℕ → Option FaultCode
code_numbered n = find (λ code. number_of code == n) all_codes

-- the name of the fault with a number, `Unknown` if there is none
abbrev pub name_numbered : ℕ → List ℕ
name_numbered n = option_map_or name_of (code_numbered n) (codes "Unknown")

-- the exit status of the fault with a number, 4 if there is none
abbrev pub status_numbered : ℕ → ℕ
status_numbered n = option_map_or status_of (code_numbered n) 4

-- a number and a name as they are printed: the number in decimal, a blank, the name
abbrev pub text_with : ℕ → List ℕ → List ℕ
text_with number name = decimal number ++ 32 ∷ name

-- a fault as it is printed
abbrev pub code_text : FaultCode → List ℕ
code_text code = text_with (number_of code) (name_of code)

-- the same followed by what the fault carries, after a blank
abbrev pub text_carrying : FaultCode → List ℕ → List ℕ
text_carrying code carried = code_text code ++ 32 ∷ carried
