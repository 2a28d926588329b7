-- The JSON value that is built of a plan, and its text.
use Rattle.std.proofs.Common.{◌≡◌, ℕ, ◌≤◌, List, [], ◌∷◌, false, refl, ap, ◌∙◌, take, length}
use Rattle.std.proofs.lemmas.List.{take_all}
use Rattle.serde_json.specs.Data.{object}
use Rattle.serde_json.specs.Written.{has_float, members_have_float}
use Rattle.cut_fields.specs.declared.field.Field.{Field}
use Rattle.cut_fields.specs.declared.version.Version.{Version}
use Rattle.cut_fields.specs.declared.version.Version.TheVariants.{One, Two}
use Rattle.cut_plan.specs.Failing.{version_of}
use Rattle.cut_plan.specs.Values.{Values}
use Rattle.cut_plan.specs.Plan.{IsPlan}
use Rattle.cut_fields.specs.Fields.{fields_of}
use Rattle.cut_plan.specs.Canonical.{members_with}
use Rattle.cut_plan.specs.inside.Look.{data_of, with_fields}
use Rattle.cut_plan.proofs.Tame.{AreTame, all_tame}

with_fields_by : (version : Version) (v : Values) → with_fields v (fields_of version)
    ≡ members_with v (fields_of version)
unfolding fields_of
with_fields_by One v = refl
with_fields_by Two v = refl

pub with_own_fields : (v : Values) → object (with_fields v (fields_of (version_of v.failing))) ≡ data_of v
unfolding data_of
with_own_fields v = ap object (with_fields_by (version_of v.failing) v)

no_member_floats : (v : Values) (fields : List Field) → AreTame v fields → members_have_float (members_with v fields)
    ≡ false
no_member_floats v [] tame = refl
no_member_floats v (field ∷ fields) tame = rw tame.0.no_float (no_member_floats v fields tame.1)

pub no_floats : (v : Values) → IsPlan v → has_float (data_of v) ≡ false
unfolding data_of
no_floats v plan = no_member_floats v (fields_of (version_of v.failing)) (all_tame v plan)

fourteen : (version : Version) → length (fields_of version) ≡ 14
unfolding fields_of
fourteen One = refl
fourteen Two = refl

pub take_fields : (version : Version) (fields : List Field) (i : ℕ) → fields ≡ fields_of version → 14 ≤ i
    → take i fields ≡ fields_of version
take_fields version fields i same past =
    let long : length fields ≤ i = rw (same, fourteen version) past in
    take_all i fields long ∙ same
