-- The fields of a plan's JSON object: their names, their kinds, and what stands in a value.
use Rattle.std.specs.Prelude.{ℕ, List, [], ◌∷◌, map, Bool, ◌&&◌, codes, Option, is_some}
use Rattle.std.specs.Prelude.{option_and_then, unwrap_or}
use Rattle.std.specs.List.{list_all}
use Rattle.serde_json.specs.Data.{Data, null, number, array, unsigned, Items, no_items, item, Members, no_members, member}
use Rattle.serde_json.specs.Find.{get, as_bool, as_number, as_str, as_array, as_u64}
use Rattle.serde_json.specs.View.{items_of}
use Rattle.cut_fields.specs.declared.field.Field.{Field}
use Rattle.cut_fields.specs.declared.field.Field.TheVariants.{Copies, Dead, Deaf, F, Faults, H, Implicit, K, L, Liars}
use Rattle.cut_fields.specs.declared.field.Field.TheVariants.{Links, Nodes, Repeats, Seed, Version}
use Rattle.cut_fields.specs.declared.version.Version as format
use Rattle.cut_fields.specs.declared.version.Version.TheVariants.{One, Two}
use Rattle.cut_fields.specs.declared.kind.Kind.{Kind}
use Rattle.cut_fields.specs.declared.kind.Kind.TheVariants.{Number, Numbers, Text, Truth}

-- the name of a field in the JSON object
abbrev pub name_of : Field → List ℕ
name_of Copies = codes "copies"
name_of Dead = codes "dead"
name_of Deaf = codes "deaf"
name_of F = codes "f"
name_of Faults = codes "faults"
name_of H = codes "h"
name_of Implicit = codes "implicit"
name_of K = codes "k"
name_of L = codes "l"
name_of Liars = codes "liars"
name_of Links = codes "links"
name_of Nodes = codes "nodes"
name_of Repeats = codes "repeats"
name_of Seed = codes "seed"
name_of Version = codes "version"

-- every field of a version, in byte order of the names: version 1 has faults, version 2 has deaf in its place
unfoldable pub fields_of : format.Version → List Field
fields_of One = Copies ∷ Dead ∷ F ∷ Faults ∷ H ∷ Implicit ∷ K ∷ L ∷ Liars ∷ Links ∷ Nodes ∷ Repeats ∷ Seed ∷ Version
    ∷ []
fields_of Two = Copies ∷ Dead ∷ Deaf ∷ F ∷ H ∷ Implicit ∷ K ∷ L ∷ Liars ∷ Links ∷ Nodes ∷ Repeats ∷ Seed ∷ Version ∷ []

-- the kind of a field's value, which is a number in all fields but these
abbrev pub kind_of : Field → Kind
kind_of Dead = Text
kind_of F = Numbers
kind_of Faults = Text
kind_of H = Numbers
kind_of Implicit = Truth
kind_of K = Numbers
kind_of L = Numbers
kind_of Seed = Text
kind_of field = Number

-- the whole number that a value is: an unsigned integer of 64 bits, with no point and no exponent
abbrev pub whole_number : Data → Option ℕ
whole_number d = option_and_then as_u64 (as_number d)

-- items, as a list
abbrev pub list_of_items : Items → List Data
list_of_items no_items = []
list_of_items (item d ds) = d ∷ list_of_items ds

-- the items of an array, and none of anything else
abbrev pub elements : Data → List Data
elements d = list_of_items (unwrap_or (as_array d) no_items)

-- the keys of members, in their order
abbrev pub keys_of_members : Members → List (List ℕ)
keys_of_members no_members = []
keys_of_members (member k d ms) = k ∷ keys_of_members ms

-- whether a value is of a kind
abbrev pub is_of : Kind → Data → Bool
is_of Number d = is_some (whole_number d)
is_of Numbers d = is_some (as_array d) && list_all (λ x. is_some (whole_number x)) (elements d)
is_of Text d = is_some (as_str d)
is_of Truth d = is_some (as_bool d)

-- the value of a field, null if it is missing
abbrev pub member_at : Data → Field → Data
member_at d field = unwrap_or (get (name_of field) d) null

-- the number in a value, 0 if it is of another kind
abbrev pub number_in : Data → ℕ
number_in d = unwrap_or (whole_number d) 0

-- the numbers in a value, none if it is of another kind
abbrev pub numbers_in : Data → List ℕ
numbers_in d = map number_in (elements d)

-- the text in a value, the empty one if it is of another kind
abbrev pub text_in : Data → List ℕ
text_in d = unwrap_or (as_str d) []

-- numbers, as JSON
abbrev pub numbers_data : List ℕ → Data
numbers_data xs = array (items_of (map (λ x. number (unsigned x)) xs))
