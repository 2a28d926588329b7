-- The JSON value that is built of a plan is accepted, as that plan.
use Rattle.std.proofs.Common.{◌≡◌, ◌+◌, List, [], ◌∷◌, length, Bool, true, not, Option, None, Some, is_some, unwrap_or}
use Rattle.std.proofs.Common.{Result, Ok, refl, ap, ◌∙◌}
use Rattle.std.proofs.lemmas.Bool.{lt-ltb, le-leb}
use Rattle.std.specs.Bool.{⊤}
use Rattle.std.specs.List.{AllByRecursion, list_all, find}
use Rattle.serde_json.specs.Data.{Data, null, object}
use Rattle.serde_json.specs.Find.{get, as_object}
use Rattle.cut_fields.specs.declared.kind.Kind.{Kind}
use Rattle.cut_fields.specs.declared.kind.Kind.TheVariants.{Number}
use Rattle.cut_plan.specs.declared.refusal.Refusal.{Refusal}
use Rattle.cut_plan.specs.declared.refusal.Refusal.TheVariants.{MissingField, WrongKind, OutOfRange, NotRising}
use Rattle.cut_fields.specs.declared.field.Field.{Field}
use Rattle.cut_fields.specs.declared.version.Version.{Version}
use Rattle.cut_fields.specs.declared.version.Version.TheVariants.{One, Two}
use Rattle.cut_plan.specs.Failing.{version_of}
use Rattle.cut_plan.specs.Values.{Values}
use Rattle.cut_plan.specs.Cells.{cells_of, largest}
use Rattle.cut_plan.specs.Plan.{IsPlan, is_rising}
use Rattle.cut_fields.specs.Fields.{name_of, kind_of, fields_of, is_of, numbers_in}
use Rattle.cut_fields.specs.Members.{keys, is_named}
use Rattle.cut_plan.specs.Accepted.{in_range, each, field_check, limit_check, plan_in}
use Rattle.cut_fields.specs.Members.{is_present, is_of_kind}
use Rattle.cut_plan.specs.inside.Accepted.{is_in_range, rises_at, checks_by}
use Rattle.cut_plan.specs.Canonical.{members_with}
use Rattle.cut_plan.specs.inside.Look.{data_of}
use Rattle.cut_plan.proofs.Versions.{has, all_own}
use Rattle.cut_plan.proofs.Checked.{IsChecked}
use Rattle.cut_plan.proofs.Members.{shown, version_back, values_back}
use Rattle.cut_plan.proofs.Tame.{tame}

find_nothing : (holds : Field → Bool) (fields : List Field) → AllByRecursion (λ field. holds field ≡ true) fields
    → find (λ field. not (holds field)) fields ≡ None
find_nothing holds [] h = refl
find_nothing holds (field ∷ fields) h = rw h.0 (find_nothing holds fields h.1)

each_passes : {A : Type 0} (version : Version) (holds : Field → Bool) (fault : Field → Refusal)
    (later : Result A Refusal)
    → ((field : Field) → has field version ≡ true → holds field ≡ true) → each version holds fault later ≡ later
each_passes version holds fault later h = rw (find_nothing holds (fields_of version)
    (all_own version (λ field. holds field ≡ true) h)) refl

abbrev no_fault : Result ⊤ Refusal
no_fault = Ok tt

own_checks_pass : (version : Version) (d : Data) → list_all (λ name. is_named version name) (keys d) ≡ true
    → IsChecked version d → checks_by version d ≡ no_fault
unfolding checks_by
own_checks_pass version d named passes =
    rw named
    (each_passes version (is_present d) MissingField _ passes.present
    ∙ each_passes version (is_of_kind d) WrongKind _ passes.kinds
    ∙ each_passes version (is_in_range d) OutOfRange _ passes.ranges
    ∙ each_passes version (rises_at d) NotRising no_fault passes.rises)

-- a field of which there is something of some kind is there
there : (kind : Kind) (found : Option Data) → is_of kind (unwrap_or found null) ≡ true → is_some found ≡ true
there kind (Some d) h = refl
there Number None h = cc h
there kind None h = cc h

kinds_back : (v : Values) → IsPlan v → (field : Field) → has field (version_of v.failing) ≡ true
    → is_of_kind (data_of v) field ≡ true
kinds_back v plan field own = ap (λ at. is_of (kind_of field) (at field)) (shown v) ∙ (tame v plan field own).0.of_kind

names_by : (version : Version) (v : Values)
    → list_all (λ name. is_named version name) (keys (object (members_with v (fields_of version)))) ≡ true
unfolding fields_of
names_by One v = refl
names_by Two v = refl

names_back : (v : Values) → list_all (λ name. is_named (version_of v.failing) name) (keys (data_of v)) ≡ true
unfolding data_of
names_back v = names_by (version_of v.failing) v

passes_back : (v : Values) → IsPlan v → IsChecked (version_of v.failing) (data_of v)
passes_back v plan = record {
  present = λ field own. there (kind_of field) (get (name_of field) (data_of v)) (kinds_back v plan field own);
  kinds = kinds_back v plan;
  ranges = λ field own. ap (λ at. in_range at field) (shown v) ∙ (tame v plan field own).1;
  rises = λ field own. ap (λ at. is_rising (numbers_in (at field))) (shown v) ∙ (tame v plan field own).0.rising;
}

an_object : (v : Values) → is_some (as_object (data_of v)) ≡ true
unfolding data_of
an_object v = refl

checked_back : (v : Values) → IsPlan v → field_check (data_of v) ≡ Ok tt
unfolding field_check checks_by
checked_back v plan = rw (an_object v, version_back v)
    (own_checks_pass (version_of v.failing) (data_of v) (names_back v) (passes_back v plan))

counted_back : (v : Values) → IsPlan v → limit_check v ≡ Ok tt
unfolding limit_check
counted_back v plan =
    rw (
      lt-ltb 0 (length (cells_of v)) plan.some_cell,
      le-leb (largest v.f + v.liars + v.links) v.nodes plan.faults_fit,
      le-leb (length (cells_of v)) 4096 plan.few_cells,
    ) refl

pub plan_in_back : (v : Values) → IsPlan v → plan_in (data_of v) ≡ Ok v
unfolding plan_in
plan_in_back v plan = rw (checked_back v plan, values_back v plan, counted_back v plan) refl
