-- Which texts are accepted plans, and the first fault of any other (this project's profile). The checks run in
-- the order below, each over all fields before the next begins.
use Rattle.std.specs.Prelude.{ℕ, ◌+◌, ◌&&◌, List, [], length, Bool, true, false, not, nat_eq, nat_le, nat_lt}
use Rattle.std.specs.Prelude.{if◌then◌else◌, None, is_some, unwrap_or, Result, Ok, Err, ⊤}
use Rattle.std.specs.Bool.{⊤}
use Rattle.std.specs.List.{list_all, list_any, find}
use Rattle.std.specs.Str.{bytes_eq, is_utf8}
use Rattle.std.specs.Option.{option_map_or}
use Rattle.std.specs.Result.{is_ok, result_ok, result_and}
use Rattle.hex.specs.Hex.{decode_sized}
use Rattle.serde_json.specs.Data.{Data, no_members}
use Rattle.serde_json.specs.Find.{get, as_bool, as_object}
use Rattle.serde_json.specs.Read.{read}
use Rattle.cut_plan.specs.declared.limits.TheConstants.{LONGEST_TEXT, MOST_CELLS, MOST_COPIES, MOST_NODES}
use Rattle.cut_plan.specs.declared.limits.TheConstants.{MOST_REPEATS, MOST_RINGS}
use Rattle.cut_plan.specs.declared.refusal.Refusal.{Refusal}
use Rattle.cut_plan.specs.declared.refusal.Refusal.TheVariants.{NotJson, NotObject, UnknownField, MissingField}
use Rattle.cut_plan.specs.declared.refusal.Refusal.TheVariants.{WrongKind, OutOfRange, NotRising, NoCell, TooManyFaults}
use Rattle.cut_plan.specs.declared.refusal.Refusal.TheVariants.{TooManyTrials, PlanTooLong}
use Rattle.cut_fields.specs.declared.field.Field.{Field}
use Rattle.cut_fields.specs.declared.field.Field.TheVariants as field
use Rattle.cut_plan.specs.declared.dead.Dead.TheVariants.{Silent}
use Rattle.cut_plan.specs.declared.faults.Faults.TheVariants.{Crash}
use Rattle.cut_plan.specs.Words.{dead_of, faults_of}
use Rattle.cut_plan.specs.declared.failing.Failing.TheVariants.{Alike, Mixed}
use Rattle.cut_fields.specs.declared.version.Version.{Version}
use Rattle.cut_fields.specs.Versions.{version_by}
use Rattle.cut_plan.specs.Values.{Values}
use Rattle.cut_plan.specs.Cells.{cells_of, largest}
use Rattle.cut_plan.specs.Plan.{is_within, is_rising}
use Rattle.cut_fields.specs.Fields.{name_of, fields_of, kind_of, keys_of_members, is_of, member_at, number_in, numbers_in}
use Rattle.cut_fields.specs.Fields.{text_in}

-- ---- what is asked of each field

-- a list of ring numbers or watermarks, which are 1 to 32
abbrev pub is_in_scale : List ℕ → Bool
is_in_scale xs = nat_lt 0 (length xs) && list_all (is_within 1 MOST_RINGS) xs

-- whether the value of a field is in the field's range. An empty list is not, nor is a text that is none of the words
-- or not 64 hexadecimal digits. The last row is for `deaf`, `liars` and `links`
abbrev pub in_range : (Field → Data) → Field → Bool
in_range at field.Copies = is_within 1 MOST_COPIES (number_in (at field.Copies))
in_range at field.Dead = is_some (dead_of (text_in (at field.Dead)))
in_range at field.F = nat_lt 0 (length (numbers_in (at field.F)))
    && list_all (λ f. nat_lt f (number_in (at field.Nodes))) (numbers_in (at field.F))
in_range at field.Faults = is_some (faults_of (text_in (at field.Faults)))
in_range at field.H = is_in_scale (numbers_in (at field.H))
in_range at field.Implicit = true
in_range at field.K = is_in_scale (numbers_in (at field.K))
in_range at field.L = is_in_scale (numbers_in (at field.L))
in_range at field.Nodes = is_within 2 MOST_NODES (number_in (at field.Nodes))
in_range at field.Repeats = is_within 1 MOST_REPEATS (number_in (at field.Repeats))
in_range at field.Seed = is_ok (decode_sized (text_in (at field.Seed)) 32)
in_range at field.Version = is_within 1 2 (number_in (at field.Version))
in_range at field = is_within 0 MOST_NODES (number_in (at field))

-- ---- the order of the checks

-- the fault if the test fails, else what comes after
abbrev pub wanted : {A : Type 0} → Bool → Refusal → Result A Refusal → Result A Refusal
wanted holds fault later = if holds then later else Err fault

-- the fault of the first field of a version that fails the test, else what comes after
abbrev pub each : {A : Type 0} → Version → (Field → Bool) → (Field → Refusal) → Result A Refusal → Result A Refusal
each version holds fault later =
    option_map_or (λ field. Err (fault field)) (find (λ field. not (holds field)) (fields_of version)) later

-- the checks on an object's fields, by those of its version
unfoldable pub field_check : Data → Result ⊤ Refusal
field_check d =
    let version = version_by (number_in (member_at d field.Version)) in
    wanted (is_some (as_object d)) NotObject
    (wanted (list_all (λ name. list_any (λ field. bytes_eq (name_of field) name) (fields_of version))
    (keys_of_members (unwrap_or (as_object d) no_members))) UnknownField
    (each version (λ field. is_some (get (name_of field) d)) MissingField
    (each version (λ field. is_of (kind_of field) (member_at d field)) WrongKind
    (each version (in_range (member_at d)) OutOfRange
    (each version (λ field. is_rising (numbers_in (member_at d field))) NotRising
    (Ok tt))))))

-- the values that fields say; how targets fail is said by the fields of the version
abbrev pub values_at : (Field → Data) → Values
values_at at = record {
  copies = number_in (at field.Copies);
  dead = unwrap_or (dead_of (text_in (at field.Dead))) Silent;
  f = numbers_in (at field.F);
  failing = if nat_eq (number_in (at field.Version)) 2 then Mixed (number_in (at field.Deaf))
      else Alike (unwrap_or (faults_of (text_in (at field.Faults))) Crash);
  h = numbers_in (at field.H);
  implicit = unwrap_or (as_bool (at field.Implicit)) false;
  k = numbers_in (at field.K);
  l = numbers_in (at field.L);
  liars = number_in (at field.Liars);
  links = number_in (at field.Links);
  nodes = number_in (at field.Nodes);
  repeats = number_in (at field.Repeats);
  seed = unwrap_or (result_ok (decode_sized (text_in (at field.Seed)) 32)) [];
}

-- the checks on the values together: some combination has l ≤ h ≤ k and so is a cell, no more processes are faulty than
-- there are, and there are no more than 4096 cells
unfoldable pub limit_check : Values → Result ⊤ Refusal
limit_check v =
    wanted (nat_lt 0 (length (cells_of v))) NoCell
    (wanted (nat_le (largest v.f + v.liars + v.links) v.nodes) TooManyFaults
    (wanted (nat_le (length (cells_of v)) MOST_CELLS) TooManyTrials
    (Ok tt)))

-- the plan that a JSON value is, or its first fault
unfoldable pub plan_in : Data → Result Values Refusal
plan_in d =
    let values = values_at (member_at d) in
    result_and (field_check d) (result_and (limit_check values) (Ok values))

-- the plan that a text is, or its first fault: the text has at most 65,536 bytes, is UTF-8, and `serde_json` reads it
unfoldable pub plan_of : List ℕ → Result Values Refusal
plan_of text = if nat_lt LONGEST_TEXT (length text) then Err PlanTooLong
    else option_map_or plan_in (if is_utf8 text then read text else None) (Err NotJson)
