-- Which fields a version has, and what holds of each of them.
use Rattle.std.proofs.Common.{◌≡◌, ℕ, zero, suc, Bool, true, false, List, [], ◌∷◌, Some, slice_get, refl, subst}
use Rattle.std.specs.List.{AllByRecursion, list_all, position_or_len}
use Rattle.std.specs.Str.{bytes_eq}
use Rattle.std.proofs.lemmas.Option.{same_Some}
use Rattle.cut_fields.specs.declared.field.Field.{Field}
use Rattle.cut_fields.specs.declared.field.Field.TheVariants as field
use Rattle.cut_fields.specs.declared.version.Version.{Version}
use Rattle.cut_fields.specs.declared.version.Version.TheVariants.{One, Two}
use Rattle.cut_fields.specs.Versions.{version_number, version_by}
use Rattle.cut_fields.specs.Fields.{fields_of, name_of}
use Rattle.cut_plan.proofs.Every.{every-list_all}

-- whether a version has a field
abbrev pub has : Field → Version → Bool
has field.Deaf One = false
has field.Deaf Two = true
has field.Faults One = true
has field.Faults Two = false
has field version = true

-- the place of a field among those of a version, by its name
abbrev place_in : Version → Field → ℕ
place_in version field = position_or_len (λ other. bytes_eq (name_of other) (name_of field)) (fields_of version)

found : (version : Version) (field : Field) → has field version ≡ true
    → slice_get (fields_of version) (place_in version field) ≡ Some field
unfolding fields_of
found One field.Deaf own = cc own
found Two field.Faults own = cc own
found One field own = refl
found Two field own = refl

every_at : (P : Field → Type 0) (fields : List Field) (place : ℕ) (field : Field) → AllByRecursion P fields
    → slice_get fields place ≡ Some field → P field
every_at P [] place field h at = cc at
every_at P (first ∷ rest) zero field h at = subst P (same_Some first field at) h.0
every_at P (first ∷ rest) (suc place) field h at = every_at P rest place field h.1 at

-- what holds of each field of a version's list holds of each that the version has
pub every_field : (version : Version) (P : Field → Type 0) → AllByRecursion P (fields_of version) → (field : Field)
    → has field version ≡ true → P field
every_field version P h field own =
    every_at P (fields_of version) (place_in version field) field h (found version field own)

-- and what holds of each that the version has holds of each of its list
all_had : (version : Version) → list_all (λ field. has field version) (fields_of version) ≡ true
unfolding fields_of
all_had One = refl
all_had Two = refl

pub all_own : (version : Version) (P : Field → Type 0) → ((field : Field) → has field version ≡ true → P field)
    → AllByRecursion P (fields_of version)
all_own version P h = every-list_all (λ field. has field version) P h (fields_of version) (all_had version)

pub version_shown : (version : Version) → version_by (version_number version) ≡ version
version_shown One = refl
version_shown Two = refl
