-- What the writes of a new study leave, whatever crash may come.
use Rattle.std.proofs.Common.{◌≡◌, ◌∙◌, ◌≤◌, ◌<◌, ◌++◌, ◌==◌, ◌⊎◌, inl, ℕ, false, List, [], ◌∷◌, Result, Ok, length}
use Rattle.std.proofs.Common.{drop, slice_index, refl, sym, ap, subst, arith, append_assoc, length-append}
use Rattle.std.specs.Bool.{⊤}
use Rattle.std.proofs.lemmas.Bool.Decides.{nat_tests}
use Rattle.std.proofs.lemmas.List.{take_at, get_or-append_right}
use Rattle.cut_plan.specs.Values.{Values}
use Rattle.cut_plan.specs.Canonical.{canonical_text}
use Rattle.cut_disks.specs.State.{DiskState, Throughout, settled, synced, overwritten}
use Rattle.cut_disks.specs.Laws.{WritesStayInSpan}
use Rattle.cut_journal.specs.declared.fault.JournalFault.TheVariants.{Disk}
use Rattle.cut_journal.specs.File.{open_gate, closed_gate, prefix_of, header_of, header_digest}
use Rattle.cut_journal.specs.inside.File.{rest_of}
use Rattle.cut_journal.specs.Reading.{is_study, reading}
use Rattle.cut_journal.specs.Opening.{IsNewStudy, IsNotMade}
use Rattle.cut_journal.specs.inside.Steps.{BeginsAs, WritesThrough}
use Rattle.cut_journal.proofs.Moments.{Through, and_then, settled_images, through_is, weaker}
use Rattle.cut_journal.proofs.Appends.{torn_rest}
use Rattle.cut_journal.proofs.Prefixes.{long_prefix}
use Rattle.cut_journal.proofs.Gates.{gate_first}
use Rattle.cut_journal.proofs.Headers.{prefix_begins}
use Rattle.cut_journal.proofs.Readings.{holds_reads, none_read}
use Rattle.cut_journal.specs.inside.Places.{gate_place}

-- no study
abbrev pub IsNone : List ℕ → Type 0
IsNone bytes = is_study bytes ≡ false

pub short_none : (bytes : List ℕ) → length bytes ≤ 1 → IsNone bytes
short_none bytes short = grind (arith, nat_tests)

pub closed_none : (bytes : List ℕ) → (slice_index bytes 0 == open_gate) ≡ false → IsNone bytes
closed_none bytes closed = grind (arith, nat_tests)

pub close_step : {E : Type 0} (result : Result ⊤ E) (old new : DiskState) → WritesStayInSpan → old.stable
    ≡ settled old.bytes → length old.bytes ≤ 1
    → WritesThrough result 0 (closed_gate ∷ []) old new → Through IsNone result 0 (closed_gate ∷ []) old new
close_step result old new stay durable short is =
    through_is IsNone result 0 (closed_gate ∷ []) old new stay durable (short_none old.bytes short)
    (λ image torn. short_none image (omega (arith, torn.no_longer, short))) is

pub rest_step : {E : Type 0} (result : Result ⊤ E) (put : List ℕ) (old new : DiskState) → WritesStayInSpan → old.stable
    ≡ settled old.bytes → 0 < length old.bytes → (slice_index old.bytes 0 == open_gate) ≡ false
    → WritesThrough result 1 put old new → Through IsNone result 1 put old new
rest_step result put old new stay durable some closed is =
    through_is IsNone result 1 put old new stay durable (closed_none old.bytes closed)
    (λ image torn. closed_none image (grind (arith, nat_tests, torn.same 0 some))) is

-- ---- the gate of the study is opened

pub whole_prefix : (v : Values) (rest : List ℕ) → open_gate ∷ rest_of v ++ rest ≡ prefix_of v ++ (closed_gate ∷ rest)
unfolding rest_of prefix_of
whole_prefix v rest = ap (λ (l : List ℕ). open_gate ∷ l)
    (append_assoc (header_of v ++ header_digest v) (closed_gate ∷ []) rest)

pub new_read : (v : Values) (rest : List ℕ) → length (canonical_text v) ≤ 65536
    → reading v (open_gate ∷ rest_of v ++ rest) ≡ Ok []
new_read v rest short =
    let bytes : List ℕ = prefix_of v ++ (closed_gate ∷ rest) in
    let size : length (prefix_of v) ≡ gate_place v 0 = omega (arith, long_prefix v, gate_first v) in
    let there : gate_place v 0 < length bytes = omega (arith, length-append (prefix_of v) (closed_gate ∷ rest), size) in
    ap (reading v) (whole_prefix v rest) ∙ holds_reads v bytes 0 (record {
      prefix = prefix_begins v bytes short there (take_at (prefix_of v) (closed_gate ∷ rest) (gate_place v 0) size);
      whole = λ i low. absurd (omega (arith, low));
      closed = grind (
        arith,
        get_or-append_right (prefix_of v) (closed_gate ∷ rest) (gate_place v 0) (gate_place v 0) 0
            size,
      );
    })

-- whatever its first byte is
new_or_none : (v : Values) (bytes rest : List ℕ) → length (canonical_text v) ≤ 65536 → 0 < length bytes
    → drop 1 bytes ≡ rest_of v ++ rest → IsNewStudy v bytes
new_or_none v [] rest short some is = absurd (omega arith)
new_or_none v (c ∷ bytes) rest short some is =
    subst (λ (l : List ℕ). IsNewStudy v (c ∷ l)) (sym is) (grind (arith, new_read, none_read))

pub open_step : {E : Type 0} (result : Result ⊤ E) (v : Values) (old new : DiskState) → length (canonical_text v)
    ≤ 65536 → WritesStayInSpan → old.stable ≡ settled old.bytes → BeginsAs v old.bytes
    → WritesThrough result 0 (open_gate ∷ []) old new → Through (IsNewStudy v) result 0 (open_gate ∷ []) old new
open_step result v old new short stay durable begins is =
    let rest : List ℕ = begins.1.0 in
    let after : drop 1 old.bytes ≡ rest_of v ++ rest = ap (drop 1) begins.1.1.0 in
    let some : 0 < length old.bytes = omega (arith, ap (λ (l : List ℕ). length l) begins.1.1.0) in
    through_is (IsNewStudy v) result 0 (open_gate ∷ []) old new stay durable
    (new_or_none v old.bytes rest short some after)
    (λ image torn. new_or_none v image rest short (omega (arith, torn.no_shorter, some))
    (torn_rest 0 1 old.bytes image torn (omega (arith, some)) ∙ after)) is

pub open_reads : (v : Values) (bytes : List ℕ) → length (canonical_text v) ≤ 65536 → BeginsAs v bytes
    → reading v (overwritten bytes 0 (open_gate ∷ [])) ≡ Ok []
open_reads v bytes short begins =
    ap (λ (l : List ℕ). reading v (overwritten l 0 (open_gate ∷ []))) begins.1.1.0 ∙ new_read v begins.1.0 short

-- ---- where no journal is made

pub look_failed : (v : Values) (old new : DiskState) → (new ≡ old) ⊎ (new ≡ synced old) → IsNotMade v Disk old new
look_failed v old new is =
    grind (arith, settled_images (IsNewStudy v) (synced old).stable old.bytes refl)

pub write_failed : (v : Values) (old mid new : DiskState) → mid ≡ synced old → is_study old.bytes ≡ false
    → Throughout mid new (IsNewStudy v) → IsNotMade v Disk old new
write_failed v old mid new durable none moments = grind (arith, none_read)

pub none_new : (v : Values) (bytes : List ℕ) → IsNone bytes → IsNewStudy v bytes
none_new v bytes none = inl (none_read v bytes none)

-- the gate is closed, the rest is written, and the gate is opened
pub new_written : (v : Values) (old shut rest new : DiskState) → Throughout old shut IsNone
    → Throughout shut rest IsNone → Throughout rest new (IsNewStudy v) → Throughout old new (IsNewStudy v)
new_written v old shut rest new first second last = and_then (IsNewStudy v) old rest new
    (weaker IsNone (IsNewStudy v) (none_new v) old rest (and_then IsNone old shut rest first second)) last
