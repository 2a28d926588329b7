-- The canonical text of a plan is UTF-8, and short.
use Rattle.std.proofs.Common.{◌≡◌, ℕ, ◌+◌, ◌*◌, ◌≤◌, List, [], ◌∷◌, ◌++◌, Bool, true, false, refl, arith}
use Rattle.json.specs.Print.{quoted}
use Rattle.serde_json.specs.Written.{compact_text, members_text, comma_if}
use Rattle.cut_fields.specs.declared.field.Field.{Field}
use Rattle.cut_fields.specs.declared.field.Field.TheVariants as field
use Rattle.cut_fields.specs.declared.version.Version.{Version}
use Rattle.cut_fields.specs.declared.version.Version.TheVariants.{One, Two}
use Rattle.cut_plan.specs.Failing.{version_of}
use Rattle.cut_plan.specs.Values.{Values}
use Rattle.cut_plan.specs.Plan.{IsPlan}
use Rattle.cut_fields.specs.Fields.{name_of, kind_of, fields_of}
use Rattle.cut_plan.specs.Canonical.{said, members_with, canonical_text}
use Rattle.cut_plan.proofs.Plain.{IsPlain, plain_more, plain_both, is_plain, plain_tested, plain_comma, plain_quoted}
use Rattle.cut_plan.proofs.Tame.{most_in, AreTame, all_tame}

short_name : (field : Field) → is_plain 8 (name_of field) ≡ true
short_name field.Copies = refl
short_name field = refl

abbrev most_with : List Field → ℕ
most_with [] = 1
most_with (field ∷ fields) = 52 + (most_in (kind_of field) + most_with fields)

plain_member : (later : Bool) (name text rest : List ℕ) (m n : ℕ) → IsPlain 8 name → IsPlain m text → IsPlain n rest
    → IsPlain (52 + (m + n)) (comma_if later ++ (quoted name ++ 58 ∷ (text ++ rest)))
plain_member later name text rest m n named valued others =
    let tail = plain_both 1 (m + n) (58 ∷ []) (text ++ rest) (plain_tested 1 (58 ∷ []) refl)
    (plain_both m n text rest valued others) in
    let keyed = plain_both (6 * 8 + 2) (1 + (m + n)) (quoted name) (58 ∷ (text ++ rest)) (plain_quoted 8 name named)
    tail in
    plain_more _ _ _ (omega arith) (plain_both 1 (6 * 8 + 2 + (1 + (m + n))) (comma_if later) _ (plain_comma later)
    keyed)

plain_members : (v : Values) (later : Bool) (fields : List Field) → AreTame v fields
    → IsPlain (most_with fields) (members_text later (members_with v fields))
plain_members v later [] tame = plain_tested 1 (125 ∷ []) refl
plain_members v later (field ∷ fields) tame =
    plain_member later (name_of field) (compact_text (said v field)) (members_text true (members_with v fields))
    (most_in (kind_of field)) (most_with fields)
    (plain_tested 8 (name_of field) (short_name field)) tame.0.plain (plain_members v true fields tame.1)

few_with : (version : Version) → 1 + most_with (fields_of version) ≤ 65536
unfolding fields_of
few_with One = omega arith
few_with Two = omega arith

pub canonical_plain : (v : Values) → IsPlan v → IsPlain 65536 (canonical_text v)
unfolding canonical_text
canonical_plain v plan =
    let fields = fields_of (version_of v.failing) in
    plain_more (1 + most_with fields) 65536 (123 ∷ members_text false (members_with v fields))
    (few_with (version_of v.failing))
    (plain_both 1 (most_with fields) (123 ∷ []) (members_text false (members_with v fields))
    (plain_tested 1 (123 ∷ []) refl)
    (plain_members v false fields (all_tame v plan)))
