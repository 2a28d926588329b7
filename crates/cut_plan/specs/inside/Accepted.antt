-- What only the crate's own clauses and proofs cite, beside specs/Accepted.antt.
use Rattle.std.specs.Prelude.{◌≡◌, ℕ, List, length, Bool, nat_le, nat_lt, Option, unwrap_or, Result, Ok, Err}
use Rattle.std.specs.Prelude.{⊤}
use Rattle.std.specs.Bool.{⊤}
use Rattle.std.specs.List.{list_all}
use Rattle.std.specs.Option.{option_map_or}
use Rattle.serde_json.specs.Data.{Data}
use Rattle.cut_plan.specs.declared.limits.TheConstants.{MOST_CELLS}
use Rattle.cut_plan.specs.declared.refusal.Refusal.{Refusal}
use Rattle.cut_plan.specs.declared.refusal.Refusal.TheVariants.{NotJson, UnknownField, MissingField, WrongKind}
use Rattle.cut_plan.specs.declared.refusal.Refusal.TheVariants.{OutOfRange, NotRising, NoCell, TooManyFaults}
use Rattle.cut_plan.specs.declared.refusal.Refusal.TheVariants.{TooManyTrials}
use Rattle.cut_plan.specs.declared.faults.Faults.TheVariants.{Crash}
use Rattle.cut_plan.specs.declared.failing.Failing.{Failing}
use Rattle.cut_plan.specs.declared.failing.Failing.TheVariants.{Alike, Mixed}
use Rattle.cut_fields.specs.declared.field.Field.{Field}
use Rattle.cut_fields.specs.declared.field.Field.TheVariants as field
use Rattle.cut_fields.specs.declared.version.Version.{Version}
use Rattle.cut_fields.specs.declared.version.Version.TheVariants.{One, Two}
use Rattle.cut_plan.specs.Values.{Values}
use Rattle.cut_plan.specs.Plan.{is_rising}
use Rattle.cut_plan.specs.Words.{faults_of}
use Rattle.cut_fields.specs.Fields.{member_at, number_in, text_in}
use Rattle.cut_fields.specs.Members.{keys, is_named, numbers_at, is_present, is_of_kind}
use Rattle.cut_plan.specs.Accepted.{in_range, wanted, each, field_check, values_at, plan_in}

-- an object whose fields passed the checks
abbrev pub IsChecked : Data → Type 0
IsChecked d = field_check d ≡ Ok tt

-- a list that is not empty
abbrev pub has_some : List ℕ → Bool
has_some xs = nat_lt 0 (length xs)

-- whether the field's value, which is of the field's kind, is in the field's range
abbrev pub is_in_range : Data → Field → Bool
is_in_range d field = in_range (member_at d) field

-- whether the field's numbers are strictly ascending; a field of another kind has none
abbrev pub rises_at : Data → Field → Bool
rises_at d field = is_rising (numbers_at d field)

-- the checks on an object's fields by those of a version
unfoldable pub checks_by : Version → Data → Result ⊤ Refusal
checks_by version d =
    wanted (list_all (is_named version) (keys d)) UnknownField
    (each version (is_present d) MissingField
    (each version (is_of_kind d) WrongKind
    (each version (is_in_range d) OutOfRange
    (each version (rises_at d) NotRising
    (Ok tt)))))

-- what fields of a version say of how targets fail
abbrev pub failing_by : Version → (Field → Data) → Failing
failing_by One at = Alike (unwrap_or (faults_of (text_in (at field.Faults))) Crash)
failing_by Two at = Mixed (number_in (at field.Deaf))

-- what the object's fields say
abbrev pub values_in : Data → Values
values_in d = values_at (member_at d)

-- the plan that was read, where anything was
abbrev pub found_in : Option Data → Result Values Refusal
found_in read = option_map_or plan_in read (Err NotJson)

-- the limits on the number of cells, on the faults, and on the cells again
abbrev pub limits : ℕ → ℕ → ℕ → Result ⊤ Refusal
limits cells faults nodes =
    wanted (nat_lt 0 cells) NoCell
    (wanted (nat_le faults nodes) TooManyFaults
    (wanted (nat_le cells MOST_CELLS) TooManyTrials
    (Ok tt)))
