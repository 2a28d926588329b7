-- What every plan says in each field of its version: a value that reads back from a short text, and is in range.
use Rattle.std.proofs.Common.{◌≡◌, ℕ, ◌≤◌, ◌<◌, List, [], ◌∷◌, length, Bool, true, false, nat_le, nat_lt, ◌&&◌}
use Rattle.std.proofs.Common.{Some, is_some, option_map, unwrap_or, refl, ap, arith}
use Rattle.std.proofs.lemmas.Bool.{and_from, lt-ltb, le-leb}
use Rattle.std.specs.List.{AllByRecursion, list_all}
use Rattle.json.specs.Tree.{HasNumbers, ItemsHaveNumbers, depth, items_depth}
use Rattle.json.proofs.Printed.Decimals.{IsNumber-decimal}
use Rattle.serde_json.specs.Data.{Data, boolean, number, string, array, unsigned}
use Rattle.serde_json.specs.Read.{of_json, of_items}
use Rattle.serde_json.specs.Written.{outline, items_outline, compact_text, has_float, items_have_float}
use Rattle.serde_json.proofs.Numbers.{number_of-decimal}
use Rattle.cut_fields.specs.declared.kind.Kind.{Kind}
use Rattle.cut_fields.specs.declared.kind.Kind.TheVariants.{Number, Numbers, Text, Truth}
use Rattle.cut_fields.specs.declared.field.Field.{Field}
use Rattle.cut_fields.specs.declared.field.Field.TheVariants as field
use Rattle.cut_plan.specs.declared.dead.Dead.{Dead}
use Rattle.cut_plan.specs.declared.dead.Dead.TheVariants.{Silent, Speak}
use Rattle.cut_plan.specs.declared.faults.Faults.TheVariants.{Crash, Deaf}
use Rattle.cut_plan.specs.declared.failing.Failing.{Failing}
use Rattle.cut_plan.specs.declared.failing.Failing.TheVariants.{Alike, Mixed}
use Rattle.cut_fields.specs.declared.version.Version.{Version}
use Rattle.cut_fields.specs.declared.version.Version.TheVariants.{One, Two}
use Rattle.cut_fields.specs.Versions.{version_number}
use Rattle.cut_plan.specs.Failing.{version_of, deaf_in}
use Rattle.cut_plan.specs.Values.{Values}
use Rattle.cut_plan.specs.Plan.{IsPlan, IsScale, is_within, is_rising}
use Rattle.cut_plan.specs.Words.{dead_word, faults_word, faults_of}
use Rattle.cut_fields.specs.Fields.{list_of_items, whole_number, fields_of, kind_of, is_of, number_in, numbers_in}
use Rattle.cut_fields.specs.Fields.{text_in}
use Rattle.cut_plan.specs.Accepted.{in_range, is_in_scale}
use Rattle.cut_plan.specs.inside.Accepted.{has_some}
use Rattle.cut_fields.specs.Fields.{numbers_data}
use Rattle.cut_plan.specs.Canonical.{failing_data, said}
use Rattle.cut_plan.proofs.Every.{every-list_all}
use Rattle.cut_plan.proofs.Versions.{has, all_own}
use Rattle.cut_plan.proofs.PlanFacts.{scale_length, failed_length}
use Rattle.cut_plan.proofs.Members.{numbers_back, dead_back, seed_back}
use Rattle.cut_plan.proofs.Plain.{IsPlain, plain_more, plain_tested, plain_digits, plain_decimal, plain_quoted}
use Rattle.cut_plan.proofs.Plain.{AreSmall, items_data, plain_list}

-- ---- lists of numbers

items_whole : (xs : List ℕ) → list_all (λ d. is_some (whole_number d)) (list_of_items (items_data xs)) ≡ true
items_whole [] = refl
items_whole (x ∷ xs) = items_whole xs

items_numbers : (xs : List ℕ) → AreSmall xs → ItemsHaveNumbers (items_outline (items_data xs))
items_numbers [] small = tt
items_numbers (x ∷ xs) small = let first : x < 10000 = small.0
    in (IsNumber-decimal x (omega arith), items_numbers xs small.1)

items_shallow : (xs : List ℕ) → items_depth (items_outline (items_data xs)) ≡ 0
items_shallow [] = refl
items_shallow (x ∷ xs) = rw (items_shallow xs) refl

items_read : (xs : List ℕ) → AreSmall xs → of_items (items_outline (items_data xs)) ≡ Some (items_data xs)
items_read [] small = refl
items_read (x ∷ xs) small =
    grind (arith, number_of-decimal, items_read xs small.1)

no_item_floats : (xs : List ℕ) → items_have_float (items_data xs) ≡ false
no_item_floats [] = refl
no_item_floats (x ∷ xs) = no_item_floats xs

-- a short list of small numbers that rise
record IsShort (xs : List ℕ) : Type 0 where
  pub small : AreSmall xs
  pub few : length xs ≤ 2048
  pub rising : is_rising xs ≡ true

scale_back : (xs : List ℕ) → IsScale xs → is_in_scale xs ≡ true
scale_back xs scale =
    and_from (has_some xs) (list_all (is_within 1 32) xs) (lt-ltb 0 (length xs) scale.some) scale.range

scale_short : (xs : List ℕ) → IsScale xs → IsShort xs
scale_short xs scale =
    grind (arith, scale_length, every-list_all)

failed_short : (v : Values) → IsPlan v → IsShort v.f
failed_short v plan =
    grind (arith, failed_length v.nodes v.f plan.fs plan.fs_rising, every-list_all)

-- ---- each of the four kinds

-- the most bytes of the text of a value
abbrev pub most_in : Kind → ℕ
most_in Number = 400
most_in Numbers = 10300
most_in Text = 400
most_in Truth = 400

-- a value of a kind that reads back from its text, which is short, and whose numbers rise
pub record IsTame (kind : Kind) (d : Data) : Type 0 where
  pub of_kind : is_of kind d ≡ true
  pub rising : is_rising (numbers_in d) ≡ true
  pub has_numbers : HasNumbers (outline d)
  pub shallow : depth (outline d) ≤ 1
  pub reads : of_json (outline d) ≡ Some d
  pub no_float : has_float d ≡ false
  pub plain : IsPlain (most_in kind) (compact_text d)

tame_number : (n : ℕ) → n < 10000000 → IsTame Number (number (unsigned n))
tame_number n small =
    grind (arith, IsNumber-decimal n, number_of-decimal n, plain_decimal 7 n)

tame_numbers : (xs : List ℕ) → IsShort xs → IsTame Numbers (numbers_data xs)
tame_numbers xs short = record {
  of_kind = items_whole xs;
  rising = rw (numbers_back xs) short.rising;
  has_numbers = items_numbers xs short.small;
  shallow = omega (arith, items_shallow xs);
  reads = ap (option_map array) (items_read xs short.small);
  no_float = no_item_floats xs;
  plain = plain_more _ _ _ (omega arith) (plain_list 2048 xs short.small short.few);
}

tame_text : (bytes : List ℕ) → IsPlain 64 bytes → IsTame Text (string bytes)
tame_text bytes plain = grind (arith, plain_quoted 64 bytes plain)

plain_truth : (b : Bool) → IsPlain 400 (compact_text (boolean b))
plain_truth true = plain_tested 400 _ refl
plain_truth false = plain_tested 400 _ refl

tame_truth : (b : Bool) → IsTame Truth (boolean b)
tame_truth b = search (arith, plain_truth)

-- ---- field by field

within : (low high n : ℕ) → low ≤ n → n ≤ high → is_within low high n ≡ true
within low high n above below = and_from (nat_le low n) (nat_le n high) (le-leb low n above) (le-leb n high below)

-- a number in range is tame
tame_within : (low high n : ℕ) → low ≤ n → n ≤ high → high < 10000000 → IsTame Number (number (unsigned n))
    × (is_within low high n ≡ true)
tame_within low high n above below small = (tame_number n (omega arith), within low high n above below)

tame_scale : (xs : List ℕ) → IsScale xs → IsTame Numbers (numbers_data xs)
    × (is_in_scale (numbers_in (numbers_data xs)) ≡ true)
tame_scale xs scale = (tame_numbers xs (scale_short xs scale), rw (numbers_back xs) (scale_back xs scale))

tame_failed : (v : Values) → IsPlan v → IsTame Numbers (numbers_data v.f)
    × ((has_some (numbers_in (numbers_data v.f)) && list_all (λ f. nat_lt f v.nodes) (numbers_in (numbers_data v.f)))
    ≡ true)
tame_failed v plan = search (arith, tame_numbers, failed_short, numbers_back, and_from, lt-ltb)

tame_dead : (dead : Dead) → IsTame Text (string (dead_word dead))
tame_dead Silent = tame_text (dead_word Silent) (plain_tested 64 (dead_word Silent) refl)
tame_dead Speak = tame_text (dead_word Speak) (plain_tested 64 (dead_word Speak) refl)

tame_faults : (failing : Failing) → has field.Faults (version_of failing) ≡ true
    → IsTame Text (failing_data One failing) × (is_some (faults_of (text_in (failing_data One failing))) ≡ true)
tame_faults (Alike Crash) own = (tame_text (faults_word Crash) (plain_tested 64 (faults_word Crash) refl), refl)
tame_faults (Alike Deaf) own = (tame_text (faults_word Deaf) (plain_tested 64 (faults_word Deaf) refl), refl)
tame_faults (Mixed deaf) own = cc own

tame_deaf : (failing : Failing) → unwrap_or (deaf_in failing) 0 ≤ 2048 → has field.Deaf (version_of failing) ≡ true
    → IsTame Number (failing_data Two failing) × (is_within 0 2048 (number_in (failing_data Two failing)) ≡ true)
tame_deaf (Alike faults) few own = cc own
tame_deaf (Mixed deaf) few own = tame_within 0 2048 deaf (omega arith) few (omega arith)

tame_version : (version : Version) → IsTame Number (number (unsigned (version_number version)))
    × (is_within 1 2 (version_number version) ≡ true)
tame_version One = tame_within 1 2 1 (omega arith) (omega arith) (omega arith)
tame_version Two = tame_within 1 2 2 (omega arith) (omega arith) (omega arith)

-- what a plan says in each field of its version is tame, and in range
pub tame : (v : Values) → IsPlan v → (field : Field) → has field (version_of v.failing) ≡ true
    → IsTame (kind_of field) (said v field) × (in_range (said v) field ≡ true)
tame v plan field.Copies own = tame_within 1 4 v.copies plan.some_copies plan.few_copies (omega arith)
tame v plan field.Dead own = (tame_dead v.dead, rw (dead_back v.dead) refl)
tame v plan field.Deaf own = tame_deaf v.failing plan.deaf own
tame v plan field.F own = tame_failed v plan
tame v plan field.Faults own = tame_faults v.failing own
tame v plan field.H own = tame_scale v.h plan.hs
tame v plan field.Implicit own = (tame_truth v.implicit, refl)
tame v plan field.K own = tame_scale v.k plan.ks
tame v plan field.L own = tame_scale v.l plan.ls
tame v plan field.Liars own = tame_within 0 2048 v.liars (omega arith) plan.liars (omega arith)
tame v plan field.Links own = tame_within 0 2048 v.links (omega arith) plan.links (omega arith)
tame v plan field.Nodes own = tame_within 2 2048 v.nodes plan.some_nodes plan.few_nodes (omega arith)
tame v plan field.Repeats own = tame_within 1 1000000 v.repeats plan.some_repeats plan.few_repeats (omega arith)
tame v plan field.Seed own = search (arith, tame_text, plain_digits, seed_back)
tame v plan field.Version own = tame_version (version_of v.failing)

-- what values say in each of some fields is tame
abbrev pub AreTame : Values → List Field → Type 0
AreTame v fields = AllByRecursion (λ field. IsTame (kind_of field) (said v field)) fields

pub all_tame : (v : Values) → IsPlan v → AreTame v (fields_of (version_of v.failing))
all_tame v plan = all_own (version_of v.failing) (λ field. IsTame (kind_of field) (said v field))
    (λ field own. (tame v plan field own).0)
