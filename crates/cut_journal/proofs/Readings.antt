-- How bytes are read.
use Rattle.std.proofs.Common.{◌≡◌, ◌∙◌, ◌≤◌, ◌<◌, ◌+◌, ◌-◌, ◌++◌, ◌==◌, ◌&&◌, ℕ, zero, suc, Bool, true}
use Rattle.std.proofs.Common.{false, cond, List, [], ◌∷◌, Result, Ok, Err, length, take, slice_range}
use Rattle.std.proofs.Common.{nat_le, refl, sym, ap, arith, zero-add, add-one}
use Rattle.std.specs.Prelude.{bytes_eq, Option, Some, None}
use Rattle.std.specs.Int.{w32, from_be_bytes}
use Rattle.std.proofs.lemmas.Bool.Decides.{nat_tests}
use Rattle.std.proofs.lemmas.List.FromFn.{map-range_with_len_more}
use Rattle.sha2.specs.Sha256.{sha256}
use Rattle.cut_plan.specs.Failing.{version_of}
use Rattle.cut_plan.specs.Values.{Values}
use Rattle.cut_ledger.specs.declared.slip.Slip.{Slip}
use Rattle.cut_journal.specs.declared.fault.JournalFault.{JournalFault}
use Rattle.cut_journal.specs.declared.fault.JournalFault.TheVariants.{NoStudy, Damaged}
use Rattle.cut_journal.specs.File.{open_gate}
use Rattle.cut_journal.specs.Reading.{is_study, says_plan, is_magic, text_length, can_have_header}
use Rattle.cut_journal.specs.Reading.{has_header, is_slip, slip_in, slips_reading, then_slips, reading}
use Rattle.cut_journal.specs.inside.Steps.{AreWhole, IsOfPlan}
use Rattle.cut_journal.proofs.Places.{slip_at, slips_at, closed_at, damaged_at, read_on, are_placed, never_none}
use Rattle.cut_journal.proofs.Gates.{gate_first, gate_next, gate_far, gate_grows, nine_numbers}
use Rattle.cut_journal.proofs.Headers.{of_plan_alike, says_length, has_can, header_room}
use Rattle.cut_journal.proofs.Counts.{map_alike, alike_place, alike_prefix, alike_part}
use Rattle.cut_journal.specs.inside.Places.{body_at, first_slips, gate_place, is_open, is_whole}

-- bytes are the file of a study of a plan, with n slips
pub record Holds (v : Values) (bytes : List ℕ) (n : ℕ) : Type 0 where
  pub prefix : IsOfPlan v bytes
  pub whole : AreWhole v bytes n
  pub closed : is_open v bytes n ≡ false

-- ---- the first bytes

-- the gate of the first slip is there
pub first_there : (v : Values) (bytes : List ℕ) → has_header bytes ≡ true → says_plan v bytes ≡ true → gate_place v 0
    < length bytes
first_there v bytes header text =
    grind (arith, header_room, has_can, says_length, gate_first)

-- ---- the slips

-- one whole slip more
pub one_more_whole : (v : Values) (bytes : List ℕ) (n : ℕ) → AreWhole v bytes n → is_open v bytes n ≡ true
    → is_whole v bytes n ≡ true → AreWhole v bytes (n + 1)
one_more_whole v bytes n whole opens is = grind arith

-- the gate after whole slips is there
pub gate_there : (v : Values) (bytes : List ℕ) (n : ℕ) → IsOfPlan v bytes → AreWhole v bytes n → gate_place v n
    < length bytes
gate_there v bytes zero prefix whole = first_there v bytes prefix.header prefix.text
gate_there v bytes (suc n) prefix whole = let last = whole n (omega arith) in rw (← add-one n) (grind arith)

-- where there is no study, that is all that is said
pub none_read : (v : Values) (bytes : List ℕ) → is_study bytes ≡ false → reading v bytes ≡ Err NoStudy
unfolding reading
none_read v bytes none = rw none refl

-- a study of the plan
pub plan_read : (v : Values) (bytes : List ℕ) → IsOfPlan v bytes → reading v bytes ≡ slips_reading v bytes
unfolding reading
plan_read v bytes is = rw (is.study, is.header, is.text, is.letters) refl

-- the slips of a study, from the first gate on
pub reading_at : (v : Values) (bytes : List ℕ) → slips_reading v bytes ≡ slips_at v bytes (length bytes) 0
unfolding slips_reading
reading_at v bytes = rw (gate_first v) refl

-- whole slips are read, and what is read from the gate after them
ends_read : (v : Values) (bytes : List ℕ) (n : ℕ) (E : List Slip → Result (List Slip) JournalFault)
    → ((s : Slip) (ss : List Slip) → then_slips s (E ss) ≡ E (s ∷ ss)) → IsOfPlan v bytes → AreWhole v bytes n
    → ((more : ℕ) → slips_at v bytes (suc more) n ≡ E []) → slips_reading v bytes ≡ E (first_slips v bytes n)
ends_read v bytes n E goes prefix whole ends =
    let there = gate_there v bytes n prefix whole in
    reading_at v bytes ∙ read_on v bytes E goes n (length bytes) (suc (length bytes - (n + 1))) 0 n
    (omega (arith, there, gate_far v n)) (zero-add n) (λ j low high. whole j high) (ends (length bytes - (n + 1)))

pub slips_read : (v : Values) (bytes : List ℕ) (n : ℕ) → Holds v bytes n → slips_reading v bytes
    ≡ Ok (first_slips v bytes n)
slips_read v bytes n holds = ends_read v bytes n (λ ss. Ok ss) (λ s ss. refl) holds.prefix holds.whole
    (λ more. closed_at v bytes more n holds.closed)

pub holds_reads : (v : Values) (bytes : List ℕ) (n : ℕ) → Holds v bytes n → reading v bytes ≡ Ok (first_slips v bytes n)
holds_reads v bytes n holds = plan_read v bytes holds.prefix ∙ slips_read v bytes n holds

-- a slip with an open gate, after slips that are whole, and is not so
pub damage_read : (v : Values) (bytes : List ℕ) (i : ℕ) → IsOfPlan v bytes → AreWhole v bytes i → is_open v bytes i
    ≡ true → is_whole v bytes i ≡ false
    → slips_reading v bytes ≡ Err (Damaged (i + 1))
damage_read v bytes i prefix before opens broken = ends_read v bytes i (λ ss. Err (Damaged (i + 1))) (λ s ss. refl)
    prefix before (λ more. damaged_at v bytes more i opens broken)

-- where there is a study, its absence is not what is said
pub some_read : (v : Values) (bytes : List ℕ) → is_study bytes ≡ true → reading v bytes ≡ Err NoStudy → ⊥
unfolding reading slips_reading
some_read v bytes some is =
    grind (arith, never_none)

-- bytes that say slips are of the plan
read_plan : (v : Values) (bytes : List ℕ) (slips : List Slip) → reading v bytes ≡ Ok slips → IsOfPlan v bytes
unfolding reading
read_plan v bytes slips is =
    grind arith

-- bytes that say slips
pub reads_holds : (v : Values) (bytes : List ℕ) (slips : List Slip) → reading v bytes ≡ Ok slips
    → Holds v bytes (length slips) × (slips ≡ first_slips v bytes (length slips))
reads_holds v bytes slips is =
    let prefix = read_plan v bytes slips is in
    let slips_there = are_placed v bytes (length bytes) 0 slips
    (sym (reading_at v bytes) ∙ sym (plan_read v bytes prefix) ∙ is) in
    grind (arith, zero-add, prefix, slips_there)

-- ---- bytes that begin alike

slip_same : (v : Values) (n i : ℕ) (bytes others : List ℕ) → take (gate_place v n) others ≡ take (gate_place v n) bytes
    → i < n → (gate_place v (i + 1) ≤ gate_place v n) × (is_open v others i ≡ is_open v bytes i)
    × (body_at v others i ≡ body_at v bytes i)
slip_same v n i bytes others alike low =
    let end : gate_place v (i + 1) ≤ gate_place v n = gate_grows v (i + 1) n (omega arith) in (
      end,
      ap (λ (b : ℕ). b == open_gate) (alike_place (gate_place v n) (gate_place v i) others bytes alike
          (omega (arith, gate_next v i, end, nine_numbers (version_of v.failing)))),
      alike_part (gate_place v n) (gate_place v i + 1) (gate_place v (i + 1)) others bytes alike end,
    )

-- the slips before a place are the same
pub before_same : (v : Values) (n : ℕ) (bytes others : List ℕ) → IsOfPlan v bytes → AreWhole v bytes n
    → take (gate_place v n) others ≡ take (gate_place v n) bytes → gate_place v n < length others
    → IsOfPlan v others × (AreWhole v others n) × (first_slips v others n ≡ first_slips v bytes n)
before_same v n bytes others prefix whole alike long =
    let first = gate_grows v 0 n (omega arith) in (
      of_plan_alike v bytes others (alike_prefix (gate_place v n) (gate_place v 0) others bytes alike first)
          (omega (arith, long, first)) prefix,
      λ i low. (let same = slip_same v n i bytes others alike low in let w = whole i low in grind arith),
      map_alike (slip_at v others) (slip_at v bytes) n
          (λ i low. ap (slip_in (version_of v.failing)) (slip_same v n i bytes others alike low).2),
    )

-- where the gate after them is closed, that is all
pub closed_read : (v : Values) (n : ℕ) (bytes others : List ℕ) → IsOfPlan v bytes → AreWhole v bytes n
    → take (gate_place v n) others ≡ take (gate_place v n) bytes → gate_place v n < length others → is_open v others n
    ≡ false
    → reading v others ≡ Ok (first_slips v bytes n)
closed_read v n bytes others prefix whole alike long shut =
    grind (arith, before_same v n bytes others prefix whole alike long, holds_reads v others n)

-- where it is open, and a slip stands whole after it, before a closed gate, that is one more
pub opened_read : (v : Values) (n : ℕ) (bytes others : List ℕ) (slip : Slip) → IsOfPlan v bytes → AreWhole v bytes n
    → take (gate_place v n) others ≡ take (gate_place v n) bytes → gate_place v (n + 1) < length others
    → is_open v others n ≡ true
    → is_slip v (body_at v others n) ≡ true → slip_in (version_of v.failing) (body_at v others n) ≡ slip
    → is_open v others (n + 1) ≡ false
    → reading v others ≡ Ok (first_slips v bytes n ++ slip ∷ [])
opened_read v n bytes others slip prefix whole alike long opens is says shut =
    let same = before_same v n bytes others prefix whole alike (omega (arith, long, gate_next v n)) in
    let more = one_more_whole v others n same.1 opens (grind arith) in
    grind (arith, same, more, holds_reads v others (n + 1), map-range_with_len_more (slip_at v others) 0 n n)

-- ---- headers

-- a file that has no room for the plan's header is of another plan
pub short_other : (v : Values) (bytes : List ℕ) → has_header bytes ≡ true → length bytes ≤ gate_place v 0
    → says_plan v bytes ≡ false
short_other v bytes header short = grind (arith, first_there)

-- a file that is too short for a header
pub text_short : (bytes : List ℕ) (found : Option ℕ) → length bytes < 13 → found ≡ None → found
    ≡ cond (can_have_header bytes) (Some (text_length bytes)) None
unfolding can_have_header
text_short bytes found short none =
    grind (arith, nat_tests)

-- the length in a header, by its letters and digits and how many bytes there are
pub text_found : (bytes letters digits : List ℕ) (size : ℕ) (found : Option ℕ) → 13 ≤ length bytes → letters
    ≡ slice_range bytes 1 9 → digits ≡ slice_range bytes 9 13 → size ≡ length bytes → found
    ≡ cond ((is_magic letters && nat_le (from_be_bytes w32 digits) 65536)
    && nat_le (from_be_bytes w32 digits + 46) size) (Some (from_be_bytes w32 digits)) None → found
    ≡ cond (can_have_header bytes) (Some (text_length bytes)) None
unfolding can_have_header
text_found bytes letters digits size found long first second many is =
    grind (arith, nat_tests)

-- what the length in a header says of the header
pub text_none : (bytes : List ℕ) (found : Option ℕ) → found
    ≡ cond (can_have_header bytes) (Some (text_length bytes)) None → found ≡ None → has_header bytes ≡ false
unfolding has_header
text_none bytes found reported none = grind arith

-- a header of that length is whole where its digest is right
pub header_judged : (bytes : List ℕ) (found : Option ℕ) (n : ℕ) (has : Bool) → found
    ≡ cond (can_have_header bytes) (Some (text_length bytes)) None → found ≡ Some n → has
    ≡ bytes_eq (sha256 (slice_range bytes 1 (n + 13))) (slice_range bytes (n + 13) (n + 45)) → has ≡ has_header bytes
unfolding has_header
header_judged bytes found n has reported some is =
    grind arith
