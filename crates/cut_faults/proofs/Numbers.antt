-- What a fault's number names.
use Rattle.std.proofs.Common.{◌≡◌, Some, refl, sym, ap, ◌∙◌}
use Rattle.cut_faults.specs.declared.code.FaultCode.{FaultCode}
use Rattle.cut_faults.specs.declared.code.FaultCode.TheVariants.{Memory, NotJson, NotObject, UnknownField, MissingField}
use Rattle.cut_faults.specs.declared.code.FaultCode.TheVariants.{WrongKind, OutOfRange, NotRising, NoCell}
use Rattle.cut_faults.specs.declared.code.FaultCode.TheVariants.{TooManyFaults, TooManyTrials, NotPermutation, TooFew}
use Rattle.cut_faults.specs.declared.code.FaultCode.TheVariants.{BadRole, BadPiece, Stranger, Overlap, BadSlip, NotDone}
use Rattle.cut_faults.specs.declared.code.FaultCode.TheVariants.{PlanTooLong, Disk, Broken, NoStudy, OtherPlan, Damaged}
use Rattle.cut_faults.specs.declared.code.FaultCode.TheVariants.{Held, NoSlot, SeatFull, SeatMissing, SlotsFull}
use Rattle.cut_faults.specs.declared.code.FaultCode.TheVariants.{Checkpoint, Write, WorkMemory, AuditMismatch, Stopped}
use Rattle.cut_faults.specs.declared.code.FaultCode.TheVariants.{BadKind, TooLong, Truncated, Read, TooManyRequests}
use Rattle.cut_faults.specs.declared.code.FaultCode.TheVariants.{BadLength, Disagrees, NotVersion1}
use Rattle.cut_faults.specs.Codes.{all_codes, number_of, code_numbered}

-- a fault is found by its number
pub found : (code : FaultCode) → code_numbered (number_of code) ≡ Some code
unfolding all_codes
found Memory = refl
found NotJson = refl
found NotObject = refl
found UnknownField = refl
found MissingField = refl
found WrongKind = refl
found OutOfRange = refl
found NotRising = refl
found NoCell = refl
found TooManyFaults = refl
found TooManyTrials = refl
found NotPermutation = refl
found TooFew = refl
found BadRole = refl
found BadPiece = refl
found Stranger = refl
found Overlap = refl
found BadSlip = refl
found NotDone = refl
found PlanTooLong = refl
found Disk = refl
found Broken = refl
found NoStudy = refl
found OtherPlan = refl
found Damaged = refl
found Held = refl
found NoSlot = refl
found SeatFull = refl
found SeatMissing = refl
found SlotsFull = refl
found Checkpoint = refl
found Write = refl
found WorkMemory = refl
found AuditMismatch = refl
found Stopped = refl
found BadKind = refl
found TooLong = refl
found Truncated = refl
found Read = refl
found TooManyRequests = refl
found BadLength = refl
found Disagrees = refl
found NotVersion1 = refl

-- two faults that are found by one number are one
pub one_number : (a b : FaultCode) → number_of a ≡ number_of b → a ≡ b
one_number a b same =
    let found_alike : Some a ≡ Some b = sym (found a) ∙ ap code_numbered same ∙ found b in
    cc
