-- What the checks on an object's fields show.
use Rattle.std.proofs.Common.{◌≡◌, ℕ, ◌≤◌, ◌<◌, ◌&&◌, List, [], ◌∷◌, Bool, true, false, not, nat_lt, nat_le}
use Rattle.std.proofs.Common.{Option, None, Some, Result, Ok, Err, refl, arith}
use Rattle.std.specs.List.{AllByRecursion, list_all, find}
use Rattle.std.specs.Option.{option_map_or}
use Rattle.serde_json.specs.Data.{Data}
use Rattle.cut_plan.specs.declared.refusal.Refusal.{Refusal}
use Rattle.cut_fields.specs.declared.field.Field.{Field}
use Rattle.cut_fields.specs.declared.field.Field.TheVariants.{F, H, K, L, Nodes}
use Rattle.cut_fields.specs.declared.version.Version.{Version}
use Rattle.cut_fields.specs.Fields.{fields_of}
use Rattle.cut_fields.specs.Members.{number_at, numbers_at}
use Rattle.cut_plan.specs.Accepted.{is_in_scale, wanted, each, field_check}
use Rattle.cut_fields.specs.Members.{is_present, is_of_kind, version_in}
use Rattle.cut_plan.specs.inside.Accepted.{is_in_range, has_some, rises_at}
use Rattle.cut_plan.specs.inside.Accepted.{checks_by}
use Rattle.cut_plan.specs.inside.Look.{AreBelow}
use Rattle.cut_plan.proofs.Versions.{has, every_field}

pub wanted_ok : {A : Type 0} (b : Bool) (fault : Refusal) (later : Result A Refusal) (x : A) → wanted b fault later
    ≡ Ok x → (b ≡ true) × (later ≡ Ok x)
wanted_ok true fault later x h = (refl, h)
wanted_ok false fault later x h = cc h

no_fault_at : {A : Type 0} (o : Option Field) (fault : Field → Refusal) (later : Result A Refusal) (x : A)
    → option_map_or (λ field. Err (fault field)) o later ≡ Ok x → (o ≡ None) × (later ≡ Ok x)
no_fault_at None fault later x h = (refl, h)
no_fault_at (Some field) fault later x h = cc h

find_none : (holds : Field → Bool) (fields : List Field) → find (λ field. not (holds field)) fields ≡ None
    → AllByRecursion (λ field. holds field ≡ true) fields
find_none holds [] h = tt
find_none holds (field ∷ fields) h =
    grind (arith, find_none holds fields)

each_ok : {A : Type 0} (version : Version) (holds : Field → Bool) (fault : Field → Refusal) (later : Result A Refusal)
    (x : A) → each version holds fault later ≡ Ok x
    → ((field : Field) → has field version ≡ true → holds field ≡ true) × (later ≡ Ok x)
each_ok version holds fault later x h =
    let parts = no_fault_at (find (λ field. not (holds field)) (fields_of version)) fault later x h in
    (every_field version (λ field. holds field ≡ true) (find_none holds (fields_of version) parts.0), parts.1)

-- an object whose fields passed the checks by those of a version
pub record IsChecked (version : Version) (d : Data) : Type 0 where
  pub present : (field : Field) → has field version ≡ true → is_present d field ≡ true
  pub kinds : (field : Field) → has field version ≡ true → is_of_kind d field ≡ true
  pub ranges : (field : Field) → has field version ≡ true → is_in_range d field ≡ true
  pub rises : (field : Field) → has field version ≡ true → rises_at d field ≡ true

facts_by : (version : Version) (d : Data) → checks_by version d ≡ Ok tt → IsChecked version d
unfolding checks_by
facts_by version d h =
    grind (arith, each_ok)

pub checked_facts : (d : Data) → field_check d ≡ Ok tt → IsChecked (version_in d) d
unfolding field_check checks_by
checked_facts d h = facts_by (version_in d) d (wanted_ok _ _ _ tt h).1

-- a number within bounds
pub within_bounds : (low high n : ℕ) → (nat_le low n && nat_le n high) ≡ true → (low ≤ n) × (n ≤ high)
within_bounds low high n h =
    grind arith

widened : (p : ℕ → Bool) (bound : ℕ) → ((x : ℕ) → p x ≡ true → x < bound) → (xs : List ℕ) → list_all p xs ≡ true
    → AreBelow bound xs
widened p bound small [] h = refl
widened p bound small (x ∷ xs) h =
    grind (arith, widened p bound small xs)

pub scale_bytes : (xs : List ℕ) → is_in_scale xs ≡ true → AreBelow 256 xs
scale_bytes xs h =
    grind (arith, widened)

pub failed_shorts : (bound : ℕ) (xs : List ℕ) → bound ≤ 2048 → (has_some xs && list_all (λ f. nat_lt f bound) xs) ≡ true
    → AreBelow 65536 xs
failed_shorts bound xs few h =
    grind (arith, widened)

pub few_nodes : (d : Data) → field_check d ≡ Ok tt → (2 ≤ number_at d Nodes) × (number_at d Nodes ≤ 2048)
few_nodes d h = within_bounds 2 2048 (number_at d Nodes) ((checked_facts d h).ranges Nodes refl)

pub h_bytes : (d : Data) → field_check d ≡ Ok tt → AreBelow 256 (numbers_at d H)
h_bytes d h = scale_bytes (numbers_at d H) ((checked_facts d h).ranges H refl)

pub k_bytes : (d : Data) → field_check d ≡ Ok tt → AreBelow 256 (numbers_at d K)
k_bytes d h = scale_bytes (numbers_at d K) ((checked_facts d h).ranges K refl)

pub l_bytes : (d : Data) → field_check d ≡ Ok tt → AreBelow 256 (numbers_at d L)
l_bytes d h = scale_bytes (numbers_at d L) ((checked_facts d h).ranges L refl)

pub f_shorts : (d : Data) → field_check d ≡ Ok tt → AreBelow 65536 (numbers_at d F)
f_shorts d h = failed_shorts (number_at d Nodes) (numbers_at d F) (few_nodes d h).1 ((checked_facts d h).ranges F refl)
