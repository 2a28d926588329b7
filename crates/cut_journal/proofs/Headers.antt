-- The header of a plan's study is whole.
use Rattle.std.proofs.Common.{◌≡◌, ◌∙◌, ◌≤◌, ◌<◌, ◌+◌, ◌-◌, ◌++◌, ℕ, true, false, List, ◌∷◌, length}
use Rattle.std.proofs.Common.{take, slice_range, refl, sym, ap, arith}
use Rattle.std.specs.Prelude.{bytes_eq}
use Rattle.std.specs.Int.{w32, to_be_bytes, from_be_bytes}
use Rattle.std.proofs.lemmas.Bool.Decides.{nat_tests}
use Rattle.std.proofs.lemmas.Slice.Eq.{bytes_eq-Decides}
use Rattle.std.proofs.lemmas.Nat.{from_be_bytes-to_be_bytes_4}
use Rattle.std.proofs.lemmas.List.{take_at, drop_at, take_all}
use Rattle.sha2.proofs.Facts256.{length-sha256}
use Rattle.sha2.specs.Sha256.{sha256}
use Rattle.cut_fields.specs.declared.version.Version.{Version}
use Rattle.cut_fields.specs.declared.version.Version.TheVariants.{One, Two}
use Rattle.cut_plan.specs.Failing.{version_of}
use Rattle.cut_plan.specs.Values.{Values}
use Rattle.cut_plan.specs.Canonical.{canonical_text}
use Rattle.cut_journal.specs.File.{open_gate, magic_of, header_of, header_digest, prefix_of}
use Rattle.cut_journal.specs.Reading.{text_length, is_magic, can_have_header, has_header, says_plan, has_magic}
use Rattle.cut_journal.specs.inside.Steps.{IsOfPlan}
use Rattle.cut_journal.proofs.Counts.{alike_part, alike_place}
use Rattle.cut_journal.proofs.Prefixes.{long_header, long_prefix}
use Rattle.cut_journal.proofs.Gates.{gate_first}
use Rattle.cut_journal.specs.inside.Places.{gate_place}

-- the letters and the length that a study's file begins with
parts_at : (version : Version) (n : ℕ) (text digest : List ℕ)
    → (slice_range (open_gate ∷ ((magic_of version ++ to_be_bytes w32 n) ++ text) ++ digest) 1 9 ≡ magic_of version)
    × (slice_range (open_gate ∷ ((magic_of version ++ to_be_bytes w32 n) ++ text) ++ digest) 9 13 ≡ to_be_bytes w32 n)
    × (is_magic (magic_of version) ≡ true)
unfolding is_magic
parts_at One n text digest = (refl, refl, refl)
parts_at Two n text digest = (refl, refl, refl)

parts_of : (v : Values) → (slice_range (prefix_of v) 1 9 ≡ magic_of (version_of v.failing))
    × (slice_range (prefix_of v) 9 13 ≡ to_be_bytes w32 (length (canonical_text v)))
    × (is_magic (magic_of (version_of v.failing)) ≡ true)
unfolding prefix_of header_of
parts_of v = parts_at (version_of v.failing) (length (canonical_text v)) (canonical_text v) (header_digest v)

header_in : (v : Values) (n : ℕ) → n ≡ length (canonical_text v) → slice_range (prefix_of v) 1 (n + 13) ≡ header_of v
unfolding prefix_of
header_in v n is =
    grind (arith, long_header, take_at)

digest_in : (v : Values) (n : ℕ) → n ≡ length (canonical_text v) → slice_range (prefix_of v) (n + 13) (n + 45)
    ≡ sha256 (header_of v)
unfolding prefix_of header_digest
digest_in v n is =
    grind (arith, long_header, length-sha256, drop_at, take_all)

text_in : (v : Values) (n : ℕ) → n ≡ length (canonical_text v) → slice_range (prefix_of v) 13 (n + 13)
    ≡ canonical_text v
unfolding prefix_of header_of
text_in v n is =
    grind (arith, take_at)

-- the text in what a study's file begins with
pub own_text : (v : Values) (mine : List ℕ) (n : ℕ) → mine ≡ prefix_of v → n ≡ length (canonical_text v) + 45
    → slice_range mine 13 (n - 32) ≡ canonical_text v
own_text v mine n is long =
    grind (arith, text_in)

-- whether bytes say a text, by both tests
pub says_other : (v : Values) (bytes digits : List ℕ) (n : ℕ) → digits ≡ slice_range bytes 9 13 → n
    ≡ from_be_bytes w32 digits → (n ≡ length (canonical_text v) → ⊥) → false ≡ says_plan v bytes
unfolding says_plan
says_other v bytes digits n read is other =
    grind arith

pub says_same : (v : Values) (bytes digits text : List ℕ) (n : ℕ) → digits ≡ slice_range bytes 9 13 → n
    ≡ from_be_bytes w32 digits → text ≡ canonical_text v → n ≡ length text
    → bytes_eq (slice_range bytes 13 (length text + 13)) text ≡ says_plan v bytes
unfolding says_plan
says_same v bytes digits text n read is mine long =
    grind arith

-- bytes that begin as the file of a plan's study have a whole header, of this plan
pub prefix_begins : (v : Values) (bytes : List ℕ) → length (canonical_text v) ≤ 65536 → gate_place v 0 < length bytes
    → take (gate_place v 0) bytes ≡ prefix_of v → IsOfPlan v bytes
unfolding prefix_of has_header can_have_header says_plan has_magic
prefix_begins v bytes short long prefix =
    let n : ℕ = text_length bytes in
    let m : ℕ = gate_place v 0 in
    let place : m ≡ length (canonical_text v) + 45 = gate_first v in
    let size = long_prefix v in
    let alike : take m bytes ≡ take m (prefix_of v) = prefix
    ∙ sym (take_all m (prefix_of v) (omega (arith, size, place))) in
    let is : n ≡ length (canonical_text v) =
    ap (from_be_bytes w32) (alike_part m 9 13 bytes (prefix_of v) alike (omega (arith, place)) ∙ (parts_of v).1)
    ∙ from_be_bytes-to_be_bytes_4 (length (canonical_text v)) (omega (arith, short)) in
    let letters = alike_part m 1 9 bytes (prefix_of v) alike (omega (arith, place)) ∙ (parts_of v).0 in
    let text = alike_part m 13 (n + 13) bytes (prefix_of v) alike (omega (arith, is, place)) ∙ text_in v n is in
    let header = alike_part m 1 (n + 13) bytes (prefix_of v) alike (omega (arith, is, place)) ∙ header_in v n is in
    let digest = alike_part m (n + 13) (n + 45) bytes (prefix_of v) alike (omega (arith, is, place)) ∙ digest_in v n is
    in
    grind (arith, nat_tests, alike_place m 0 bytes (prefix_of v) alike, bytes_eq-Decides, (parts_of v).2)

-- ---- bytes that begin alike

-- the text that bytes say has the length of the plan's
pub says_length : (v : Values) (bytes : List ℕ) → says_plan v bytes ≡ true → text_length bytes
    ≡ length (canonical_text v)
unfolding says_plan
says_length v bytes says =
    grind arith

-- there is room for a whole header, and a gate after it
pub header_room : (bytes : List ℕ) → can_have_header bytes ≡ true → text_length bytes + 46 ≤ length bytes
unfolding can_have_header
header_room bytes can =
    grind arith

pub has_can : (bytes : List ℕ) → has_header bytes ≡ true → can_have_header bytes ≡ true
unfolding has_header
has_can bytes has =
    grind arith

pub header_alike : (m : ℕ) (bytes others : List ℕ) → take m others ≡ take m bytes → m < length others → 45 ≤ m
    → text_length bytes + 45 ≤ m → has_header bytes ≡ true → has_header others ≡ true
unfolding has_header can_have_header
header_alike m bytes others alike long room size has =
    let n : ℕ = text_length bytes in
    let is : text_length others ≡ n = ap (from_be_bytes w32)
    (alike_part m 9 13 others bytes alike (omega (arith, room))) in
    grind (
      arith,
      is,
      alike_part m 1 9 others bytes alike,
      alike_part m 1 (n + 13) others bytes alike (omega (arith, size)),
      alike_part m (n + 13) (n + 45) others bytes alike (omega (arith, size)),
    )

-- what a header says of a plan is decided by its bytes
pub says_alike : (v : Values) (bytes others : List ℕ) → take (gate_place v 0) others ≡ take (gate_place v 0) bytes
    → says_plan v others ≡ says_plan v bytes
unfolding says_plan
says_alike v bytes others alike =
    let m : ℕ = gate_place v 0 in
    let place : m ≡ length (canonical_text v) + 45 = gate_first v in
    let is : text_length others ≡ text_length bytes = ap (from_be_bytes w32)
    (alike_part m 9 13 others bytes alike (omega (arith, place))) in
    grind (arith, nat_tests, is, alike_part m 13 (text_length bytes + 13) others bytes alike)

pub magic_alike : (v : Values) (bytes others : List ℕ) → take (gate_place v 0) others ≡ take (gate_place v 0) bytes
    → has_magic v others ≡ has_magic v bytes
unfolding has_magic
magic_alike v bytes others alike =
    grind (arith, gate_first v, alike_part (gate_place v 0) 1 9 others bytes alike)

pub of_plan_alike : (v : Values) (bytes others : List ℕ) → take (gate_place v 0) others ≡ take (gate_place v 0) bytes
    → gate_place v 0 < length others → IsOfPlan v bytes → IsOfPlan v others
of_plan_alike v bytes others alike long is =
    grind (arith, nat_tests, gate_first, says_length, header_alike, says_alike, magic_alike, alike_place)
