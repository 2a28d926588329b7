-- What is reported of a text that is not an accepted plan.
use Rattle.std.specs.Prelude.{◌≡◌, ℕ, List, Option, Some, None, Result, Err, ⊤}
use Rattle.std.specs.Option.{option_map_or}
use Rattle.cut_faults.specs.declared.code.FaultCode.{FaultCode}
use Rattle.cut_faults.specs.declared.code.FaultCode.TheVariants as code
use Rattle.cut_faults.specs.Codes.{code_text, text_carrying}
use Rattle.cut_plan.specs.declared.refusal.Refusal.{Refusal}
use Rattle.cut_plan.specs.declared.refusal.Refusal.TheVariants.{NotJson, NotObject, UnknownField, MissingField}
use Rattle.cut_plan.specs.declared.refusal.Refusal.TheVariants.{WrongKind, OutOfRange, NotRising, NoCell, TooManyFaults}
use Rattle.cut_plan.specs.declared.refusal.Refusal.TheVariants.{TooManyTrials, PlanTooLong}
use Rattle.cut_plan.specs.declared.refusal.PlanFault.{PlanFault}
use Rattle.cut_plan.specs.declared.refusal.PlanFault.TheVariants.{Memory, Refused}
use Rattle.cut_fields.specs.declared.field.Field.{Field}
use Rattle.cut_fields.specs.Fields.{name_of}

-- a refusal in the program's list of faults
abbrev pub code_of_refusal : Refusal → FaultCode
code_of_refusal NotJson = code.NotJson
code_of_refusal NotObject = code.NotObject
code_of_refusal UnknownField = code.UnknownField
code_of_refusal (MissingField field) = code.MissingField
code_of_refusal (WrongKind field) = code.WrongKind
code_of_refusal (OutOfRange field) = code.OutOfRange
code_of_refusal (NotRising field) = code.NotRising
code_of_refusal NoCell = code.NoCell
code_of_refusal TooManyFaults = code.TooManyFaults
code_of_refusal TooManyTrials = code.TooManyTrials
code_of_refusal PlanTooLong = code.PlanTooLong

-- the field that a refusal carries
abbrev pub field_of_refusal : Refusal → Option Field
field_of_refusal (MissingField field) = Some field
field_of_refusal (WrongKind field) = Some field
field_of_refusal (OutOfRange field) = Some field
field_of_refusal (NotRising field) = Some field
field_of_refusal refusal = None

-- a refusal as it is printed: number, name, and the field that it carries
abbrev pub refusal_text : Refusal → List ℕ
refusal_text refusal = option_map_or (λ field. text_carrying (code_of_refusal refusal) (name_of field))
    (field_of_refusal refusal) (code_text (code_of_refusal refusal))

-- a fault in the program's list
abbrev pub code_of : PlanFault → FaultCode
code_of Memory = code.Memory
code_of (Refused refusal) = code_of_refusal refusal

-- a fault as it is printed
abbrev pub fault_text : PlanFault → List ℕ
fault_text Memory = code_text code.Memory
fault_text (Refused refusal) = refusal_text refusal

-- what a fault says of the text's plan: a refusal is exactly the one that is given for it, and that
-- memory says nothing
abbrev pub IsFaultOfText : {A : Type 0} → Result A Refusal → PlanFault → Type 0
IsFaultOfText given Memory = ⊤
IsFaultOfText given (Refused refusal) = given ≡ Err refusal
