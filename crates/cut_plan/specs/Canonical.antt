-- The canonical text of a plan: compact JSON, its keys in byte order, the seed in lower-case hexadecimal digits.
use Rattle.std.specs.Prelude.{ℕ, List, [], ◌∷◌}
use Rattle.hex.specs.Hex.{encode_lower}
use Rattle.serde_json.specs.Data.{Data, null, boolean, number, string, object, unsigned}
use Rattle.serde_json.specs.Data.{Members, no_members, member}
use Rattle.serde_json.specs.Written.{compact_text}
use Rattle.cut_plan.specs.declared.failing.Failing.{Failing}
use Rattle.cut_plan.specs.declared.failing.Failing.TheVariants.{Alike, Mixed}
use Rattle.cut_fields.specs.declared.version.Version.{Version}
use Rattle.cut_fields.specs.declared.version.Version.TheVariants.{One, Two}
use Rattle.cut_fields.specs.declared.field.Field.{Field}
use Rattle.cut_fields.specs.declared.field.Field.TheVariants as field
use Rattle.cut_plan.specs.Values.{Values}
use Rattle.cut_plan.specs.Words.{dead_word, faults_word}
use Rattle.cut_fields.specs.Versions.{version_number}
use Rattle.cut_plan.specs.Failing.{version_of}
use Rattle.cut_fields.specs.Fields.{name_of, fields_of, numbers_data}

-- how targets fail, as JSON, in the field in which a version says it: null if the plan is of the other version
abbrev pub failing_data : Version → Failing → Data
failing_data One (Alike faults) = string (faults_word faults)
failing_data Two (Mixed deaf) = number (unsigned deaf)
failing_data version failing = null

-- the value of each field, as JSON; a field that the version lacks has null
abbrev pub said : Values → Field → Data
said v field.Copies = number (unsigned v.copies)
said v field.Dead = string (dead_word v.dead)
said v field.Deaf = failing_data Two v.failing
said v field.F = numbers_data v.f
said v field.Faults = failing_data One v.failing
said v field.H = numbers_data v.h
said v field.Implicit = boolean v.implicit
said v field.K = numbers_data v.k
said v field.L = numbers_data v.l
said v field.Liars = number (unsigned v.liars)
said v field.Links = number (unsigned v.links)
said v field.Nodes = number (unsigned v.nodes)
said v field.Repeats = number (unsigned v.repeats)
said v field.Seed = string (encode_lower v.seed)
said v field.Version = number (unsigned (version_number (version_of v.failing)))

-- the members of some fields, in the order of the list
abbrev pub members_with : Values → List Field → Members
members_with v [] = no_members
members_with v (field ∷ fields) = member (name_of field) (said v field) (members_with v fields)

-- the canonical text of a plan's values: every field of their version, in byte order of the names
unfoldable pub canonical_text : Values → List ℕ
canonical_text v = compact_text (object (members_with v (fields_of (version_of v.failing))))
