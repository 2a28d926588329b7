-- What is known of a plan whose checks were passed.
use Rattle.std.proofs.Common.{◌≡◌, ℕ, suc, ◌+◌, ◌≤◌, ◌<◌, List, [], ◌∷◌, length, max, Bool, true, false, nat_lt}
use Rattle.std.proofs.Common.{nat_eq, if◌then◌else◌, Result, Ok, Err, refl, subst, arith}
use Rattle.std.proofs.lemmas.Bool.{and_parts, ltb-true, lt-ltb}
use Rattle.std.specs.List.{AllByRecursion, list_all, fold}
use Rattle.std.specs.Option.{unwrap_or}
use Rattle.std.specs.Result.{is_ok, result_ok}
use Rattle.hex.specs.Hex.{decode_sized, IsBytes}
use Rattle.hex.specs.declared.error.FromHexError.{FromHexError}
use Rattle.hex.proofs.HexLemmas.{decode_of-ok}
use Rattle.serde_json.specs.Data.{Data}
use Rattle.cut_fields.specs.declared.field.Field.{Field}
use Rattle.cut_fields.specs.declared.field.Field.TheVariants.{Copies, Deaf, F, Faults, H, K, L, Liars, Links, Nodes}
use Rattle.cut_fields.specs.declared.field.Field.TheVariants.{Repeats, Seed, Version}
use Rattle.cut_plan.specs.declared.faults.Faults.TheVariants.{Crash}
use Rattle.cut_plan.specs.declared.failing.Failing.TheVariants.{Alike, Mixed}
use Rattle.cut_fields.specs.declared.version.Version as format
use Rattle.cut_fields.specs.declared.version.Version.TheVariants.{One, Two}
use Rattle.cut_plan.specs.Failing.{deaf_in}
use Rattle.cut_plan.specs.Words.{faults_of}
use Rattle.cut_fields.specs.Fields.{member_at, number_in, text_in}
use Rattle.cut_fields.specs.Members.{number_at, numbers_at, text_at}
use Rattle.cut_plan.specs.Accepted.{is_in_scale, field_check, limit_check}
use Rattle.cut_plan.specs.inside.Accepted.{has_some, limits, failing_by, values_in}
use Rattle.cut_fields.specs.Members.{version_in}
use Rattle.cut_plan.specs.Cells.{cells_of, largest}
use Rattle.cut_plan.specs.Values.{Values}
use Rattle.cut_plan.specs.Plan.{is_rising, IsScale, IsPlan}
use Rattle.cut_plan.proofs.Every.{every-list_all, every_below_fold}
use Rattle.cut_plan.proofs.Checked.{IsChecked, checked_facts, within_bounds}
use Rattle.cut_plan.proofs.Counting.{rising_length}

-- a list of ring numbers or watermarks has at most 32
pub scale_length : (xs : List ℕ) → is_in_scale xs ≡ true → is_rising xs ≡ true → length xs ≤ 32
scale_length xs range rises =
    grind (arith, every-list_all, rising_length 1 33 xs rises)

-- a rising list of process numbers has no more than there are processes
pub failed_length : (nodes : ℕ) (xs : List ℕ) → list_all (λ f. nat_lt f nodes) xs ≡ true → is_rising xs ≡ true
    → length xs ≤ nodes
failed_length nodes xs all rises =
    grind (arith, every-list_all, rising_length 0 nodes xs rises)

pub few_h : (d : Data) → field_check d ≡ Ok tt → length (numbers_at d H) ≤ 32
few_h d h = let known = checked_facts d h in scale_length (numbers_at d H) (known.ranges H refl) (known.rises H refl)

pub few_k : (d : Data) → field_check d ≡ Ok tt → length (numbers_at d K) ≤ 32
few_k d h = let known = checked_facts d h in scale_length (numbers_at d K) (known.ranges K refl) (known.rises K refl)

pub few_l : (d : Data) → field_check d ≡ Ok tt → length (numbers_at d L) ≤ 32
few_l d h = let known = checked_facts d h in scale_length (numbers_at d L) (known.ranges L refl) (known.rises L refl)

pub few_f : (d : Data) → field_check d ≡ Ok tt → length (numbers_at d F) ≤ 2048
few_f d h =
    let known = checked_facts d h in
    let bounds = within_bounds 2 2048 (number_at d Nodes) (known.ranges Nodes refl) in
    let all = (and_parts (has_some (numbers_at d F)) (list_all (λ f. nat_lt f (number_at d Nodes)) (numbers_at d F))
    (known.ranges F refl)).1 in
    grind (arith, failed_length (number_at d Nodes) (numbers_at d F) all (known.rises F refl))

-- how targets fail, by the version
pub failing_by_version : (second : Bool) (at : Field → Data) → failing_by (if second then Two else One) at
    ≡ (if second then Mixed (number_in (at Deaf)) else Alike (unwrap_or (faults_of (text_in (at Faults))) Crash))
failing_by_version true at = refl
failing_by_version false at = refl

few_deaf : (version : format.Version) (d : Data) → IsChecked version d
    → unwrap_or (deaf_in (failing_by version (member_at d))) 0 ≤ 2048
few_deaf One d known = omega arith
few_deaf Two d known = (within_bounds 0 2048 (number_at d Deaf) (known.ranges Deaf refl)).1

pub deaf_below : (d : Data) → field_check d ≡ Ok tt → version_in d ≡ Two → number_at d Deaf ≤ 2048
deaf_below d h second =
    let known : IsChecked Two d = subst (λ version. IsChecked version d) second (checked_facts d h) in
    (within_bounds 0 2048 (number_at d Deaf) (known.ranges Deaf refl)).1

pub few_liars : (d : Data) → field_check d ≡ Ok tt → number_at d Liars ≤ 2048
few_liars d h = (within_bounds 0 2048 (number_at d Liars) ((checked_facts d h).ranges Liars refl)).1

pub few_links : (d : Data) → field_check d ≡ Ok tt → number_at d Links ≤ 2048
few_links d h = (within_bounds 0 2048 (number_at d Links) ((checked_facts d h).ranges Links refl)).1

-- ---- the facts of a plan

largest_within : (bound a : ℕ) (xs : List ℕ) → a ≤ bound → AllByRecursion (λ x. x ≤ bound) xs → fold max a xs ≤ bound
largest_within bound a [] small h = small
largest_within bound a (x ∷ xs) small h =
    grind (arith, largest_within bound (max a x) xs)

largest_reached : (low : ℕ) (xs : List ℕ) → 0 < length xs → AllByRecursion (λ x. low ≤ x) xs → low ≤ largest xs
largest_reached low [] some h = absurd (omega arith)
largest_reached low (x ∷ xs) some h =
    grind (arith, every_below_fold)

scale_facts : (xs : List ℕ) → is_in_scale xs ≡ true → is_rising xs ≡ true → IsScale xs
scale_facts xs range rises =
    grind arith

scale_top : (xs : List ℕ) → is_in_scale xs ≡ true → (largest xs ≤ 32) × (1 ≤ largest xs)
scale_top xs range =
    grind (arith, every-list_all, largest_within, largest_reached)

ok_value : (r : Result (List ℕ) FromHexError) → is_ok r ≡ true → (bytes : List ℕ) × (r ≡ Ok bytes)
ok_value (Ok bytes) h = (bytes, refl)
ok_value (Err e) h = cc h

all_bytes : (xs : List ℕ) → IsBytes xs → list_all (λ b. nat_lt b 256) xs ≡ true
all_bytes [] h = refl
all_bytes (x ∷ xs) h = rw (lt-ltb x 256 (h 0)) (all_bytes xs (λ i. h (suc i)))

seed_facts : (text : List ℕ) → is_ok (decode_sized text 32) ≡ true
    → (length (unwrap_or (result_ok (decode_sized text 32)) []) ≡ 32)
    × (list_all (λ b. nat_lt b 256) (unwrap_or (result_ok (decode_sized text 32)) []) ≡ true)
seed_facts text h =
    let found = ok_value (decode_sized text 32) h in
    grind (arith, decode_of-ok text found.0, all_bytes found.0)

limits_ok : (cells faults nodes : ℕ) → limits cells faults nodes ≡ Ok tt → (0 < cells) × (faults ≤ nodes)
    × (cells ≤ 4096)
limits_ok cells faults nodes h =
    grind arith

counted_facts : (v : Values) → limit_check v ≡ Ok tt → (0 < length (cells_of v))
    × (largest v.f + v.liars + v.links ≤ v.nodes) × (length (cells_of v) ≤ 4096)
unfolding limit_check
counted_facts v h = limits_ok (length (cells_of v)) (largest v.f + v.liars + v.links) v.nodes h

pub plan_facts : (d : Data) → field_check d ≡ Ok tt → limit_check (values_in d) ≡ Ok tt → IsPlan (values_in d)
plan_facts d ok together =
    let known = checked_facts d ok in
    let copies = within_bounds 1 4 (number_at d Copies) (known.ranges Copies refl) in
    let nodes = within_bounds 2 2048 (number_at d Nodes) (known.ranges Nodes refl) in
    let repeats = within_bounds 1 1000000 (number_at d Repeats) (known.ranges Repeats refl) in
    let failed = and_parts (has_some (numbers_at d F)) (list_all (λ f. nat_lt f (number_at d Nodes)) (numbers_at d F))
    (known.ranges F refl) in
    let seed = seed_facts (text_at d Seed) (known.ranges Seed refl) in
    let rings = scale_top (numbers_at d K) (known.ranges K refl) in
    let counts = counted_facts (values_in d) together in
    record {
      some_copies = copies.0;
      few_copies = copies.1;
      deaf = rw (← failing_by_version (nat_eq (number_at d Version) 2) (member_at d)) (few_deaf (version_in d) d known);
      ks = scale_facts (numbers_at d K) (known.ranges K refl) (known.rises K refl);
      hs = scale_facts (numbers_at d H) (known.ranges H refl) (known.rises H refl);
      ls = scale_facts (numbers_at d L) (known.ranges L refl) (known.rises L refl);
      most_rings = rings.0;
      some_ring = rings.1;
      some_f = ltb-true 0 (length (numbers_at d F)) failed.0;
      fs = failed.1;
      fs_rising = known.rises F refl;
      liars = few_liars d ok;
      links = few_links d ok;
      some_nodes = nodes.0;
      few_nodes = nodes.1;
      some_repeats = repeats.0;
      few_repeats = repeats.1;
      seed_length = seed.0;
      seed_bytes = seed.1;
      some_cell = counts.0;
      few_cells = counts.2;
      faults_fit = counts.1;
    }

pub few_copies : (d : Data) → field_check d ≡ Ok tt → number_at d Copies ≤ 4
few_copies d h = (within_bounds 1 4 (number_at d Copies) ((checked_facts d h).ranges Copies refl)).1

pub few_processes : (d : Data) → field_check d ≡ Ok tt → number_at d Nodes ≤ 2048
few_processes d h = (within_bounds 2 2048 (number_at d Nodes) ((checked_facts d h).ranges Nodes refl)).1

pub few_repeats : (d : Data) → field_check d ≡ Ok tt → number_at d Repeats ≤ 1000000
few_repeats d h = (within_bounds 1 1000000 (number_at d Repeats) ((checked_facts d h).ranges Repeats refl)).1
