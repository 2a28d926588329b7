-- The members of a plan's JSON object: which are there, and what stands in each.
use Rattle.std.specs.Prelude.{ℕ, List, map, Bool, false, is_some, unwrap_or}
use Rattle.std.specs.List.{list_any}
use Rattle.std.specs.Str.{bytes_eq}
use Rattle.serde_json.specs.Data.{Data, no_members}
use Rattle.serde_json.specs.Find.{get, as_bool, as_object}
use Rattle.serde_json.specs.View.{view}
use Rattle.serde_json.specs.declared.value.Value.{Value}
use Rattle.cut_fields.specs.declared.field.Field.{Field}
use Rattle.cut_fields.specs.declared.field.Field.TheVariants as field
use Rattle.cut_fields.specs.declared.version.Version.{Version}
use Rattle.cut_fields.specs.Versions.{version_by}
use Rattle.cut_fields.specs.Fields.{name_of, kind_of, fields_of, keys_of_members, is_of, member_at, number_in, numbers_in}
use Rattle.cut_fields.specs.Fields.{text_in}

-- the keys of an object, and none of anything else
abbrev pub keys : Data → List (List ℕ)
keys d = keys_of_members (unwrap_or (as_object d) no_members)

-- the truth value in a value, false if it is of another kind
abbrev pub truth_in : Data → Bool
truth_in d = unwrap_or (as_bool d) false

-- the number in a field
abbrev pub number_at : Data → Field → ℕ
number_at d field = number_in (member_at d field)

-- the numbers in a field
abbrev pub numbers_at : Data → Field → List ℕ
numbers_at d field = numbers_in (member_at d field)

-- the text in a field
abbrev pub text_at : Data → Field → List ℕ
text_at d field = text_in (member_at d field)

-- whether a text is the name of a field of a version
abbrev pub is_named : Version → List ℕ → Bool
is_named version name = list_any (λ field. bytes_eq (name_of field) name) (fields_of version)

-- whether the object has the field
abbrev pub is_present : Data → Field → Bool
is_present d field = is_some (get (name_of field) d)

-- whether the field's value is of the field's kind
abbrev pub is_of_kind : Data → Field → Bool
is_of_kind d field = is_of (kind_of field) (member_at d field)

-- the version by whose fields an object is checked: 2 if its version is the whole number 2, and else 1
abbrev pub version_in : Data → Version
version_in d = version_by (number_at d field.Version)

-- the numbers that values hold, 0 for a value of another kind
abbrev pub item_numbers : List Value → List ℕ
item_numbers vs = map (λ v. number_in (view v)) vs
