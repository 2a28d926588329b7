-- The fields of the JSON value that is built of a plan say what the plan says.
use Rattle.std.proofs.Common.{◌≡◌, ℕ, zero, suc, List, [], ◌∷◌, true, nat_lt, Some, Ok, refl, ap, ◌∙◌, arith}
use Rattle.std.proofs.lemmas.Bool.{and_parts, ltb-true}
use Rattle.std.specs.List.{list_all}
use Rattle.hex.specs.Hex.{decode_sized, encode_lower, IsBytes}
use Rattle.hex.proofs.HexLemmas.{decode_sized-encode_lower}
use Rattle.cut_fields.specs.declared.field.Field.{Field}
use Rattle.cut_fields.specs.declared.field.Field.TheVariants as field
use Rattle.cut_plan.specs.declared.dead.Dead.{Dead}
use Rattle.cut_plan.specs.declared.dead.Dead.TheVariants.{Silent, Speak}
use Rattle.cut_plan.specs.declared.failing.Failing.{Failing}
use Rattle.cut_plan.specs.declared.failing.Failing.TheVariants.{Alike, Mixed}
use Rattle.cut_fields.specs.Versions.{version_by}
use Rattle.cut_plan.specs.Failing.{version_of}
use Rattle.cut_plan.specs.Values.{Values}
use Rattle.cut_plan.specs.Plan.{IsPlan}
use Rattle.cut_plan.specs.Words.{dead_of, dead_word}
use Rattle.cut_fields.specs.Fields.{fields_of, member_at, number_in, numbers_in}
use Rattle.cut_plan.specs.Accepted.{values_at}
use Rattle.cut_fields.specs.Members.{version_in}
use Rattle.cut_plan.specs.inside.Accepted.{values_in}
use Rattle.cut_fields.specs.Fields.{numbers_data}
use Rattle.cut_plan.specs.Canonical.{said}
use Rattle.cut_plan.specs.inside.Look.{data_of}
use Rattle.cut_plan.proofs.Versions.{version_shown}

-- the same plan, but for how its targets fail
abbrev with_failing : Values → Failing → Values
with_failing v failing = record v { failing = failing }

-- under each field's name stands what the values say in it, and null where nothing stands
shown_at : (failing : Failing) (v : Values) (field : Field) → member_at (data_of (with_failing v failing)) field
    ≡ said (with_failing v failing) field
unfolding data_of fields_of
shown_at (Alike faults) v field.Copies = refl
shown_at (Alike faults) v field = refl
shown_at (Mixed deaf) v field.Copies = refl
shown_at (Mixed deaf) v field = refl

pub shown : (v : Values) → member_at (data_of v) ≡ said v
shown v = λ i field. shown_at v.failing v field i

-- ---- lists of numbers, the words, and the seed

pub numbers_back : (xs : List ℕ) → numbers_in (numbers_data xs) ≡ xs
numbers_back [] = refl
numbers_back (x ∷ xs) = ap (λ ys. x ∷ ys) (numbers_back xs)

pub dead_back : (dead : Dead) → dead_of (dead_word dead) ≡ Some dead
dead_back Silent = refl
dead_back Speak = refl

are_bytes : (xs : List ℕ) → list_all (λ b. nat_lt b 256) xs ≡ true → IsBytes xs
are_bytes [] h i = omega arith
are_bytes (x ∷ xs) h zero = ltb-true x 256 (and_parts (nat_lt x 256) _ h).0
are_bytes (x ∷ xs) h (suc i) = are_bytes xs (and_parts (nat_lt x 256) _ h).1 i

pub seed_back : (v : Values) → IsPlan v → decode_sized (encode_lower v.seed) 32 ≡ Ok v.seed
seed_back v plan = decode_sized-encode_lower v.seed 32 plan.seed_length (are_bytes v.seed plan.seed_bytes)

-- ---- the values

pub version_back : (v : Values) → version_in (data_of v) ≡ version_of v.failing
version_back v = ap (λ at. version_by (number_in (at field.Version))) (shown v) ∙ version_shown (version_of v.failing)

values_shown : (v : Values) → IsPlan v → values_at (said v) ≡ v
values_shown v plan =
    grind (arith, numbers_back, seed_back)

pub values_back : (v : Values) → IsPlan v → values_in (data_of v) ≡ v
values_back v plan = ap values_at (shown v) ∙ values_shown v plan
