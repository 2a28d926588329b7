-- What the first bytes of a file say, and that they say it where the file is cut after the longest head.
use Rattle.std.proofs.Common.{◌≡◌, ◌∙◌, ◌≤◌, ◌<◌, inl, inr, ℕ, Bool, true, List, Result, Ok, Err, length}
use Rattle.std.proofs.Common.{take, min, slice_range, refl, sym, ap, arith}
use Rattle.std.specs.Bool.{⊤}
use Rattle.std.specs.Prelude.{IfErr}
use Rattle.std.proofs.lemmas.Bool.{cases_lt}
use Rattle.std.proofs.lemmas.Bool.Decides.{nat_tests}
use Rattle.std.proofs.lemmas.List.{take_all, take_min, length-take-le}
use Rattle.std.proofs.lemmas.Slice.{between_is}
use Rattle.std.proofs.Math.Seq.{take-take}
use Rattle.cut_plan.specs.Values.{Values}
use Rattle.cut_plan.specs.Canonical.{canonical_text}
use Rattle.cut_disks.specs.State.{DiskState, synced}
use Rattle.cut_journal.specs.declared.fault.JournalFault.{JournalFault}
use Rattle.cut_journal.specs.Opening.{IsOpeningFaultOf, IsRefused}
use Rattle.cut_journal.specs.Reading.{is_study, has_header, text_length, can_have_header, reading}
use Rattle.cut_journal.specs.Unread.{IsUnreadable}
use Rattle.cut_journal.specs.declared.slips.Slips.{Slips}
use Rattle.cut_journal.specs.inside.Steps.{AreRead, Finds, IsOfPlan, IsSlipFault, head_in, head_reading}
use Rattle.cut_journal.specs.inside.Places.{gate_place}
use Rattle.cut_journal.proofs.Counts.{alike_place, alike_prefix}
use Rattle.cut_journal.proofs.Gates.{gate_first}
use Rattle.cut_journal.proofs.Headers.{has_can, header_alike, says_alike, magic_alike}
use Rattle.cut_journal.proofs.Readings.{plan_read}

-- ---- what bytes are read as, by their first ones

-- they are refused as the first ones are
pub head_refused : (v : Values) (bytes : List ℕ) (fault : JournalFault) → head_reading v bytes ≡ Err fault
    → (reading v bytes ≡ Err fault) × IsOpeningFaultOf fault
unfolding reading
head_refused v bytes fault is =
    grind arith

pub head_unreadable : (v : Values) (bytes : List ℕ) (fault : JournalFault) → Err fault ≡ head_reading v bytes
    → IsUnreadable v bytes fault
head_unreadable v bytes fault is =
    grind (arith, head_refused v bytes fault)

-- or are the file of a study of the plan
pub head_fine : (v : Values) (bytes : List ℕ) (done : ⊤) → head_reading v bytes ≡ Ok done → IsOfPlan v bytes
head_fine v bytes done is =
    grind arith

-- ---- a file that is cut after the longest head

bools_alike : (a b : Bool) → (a ≡ true → b ≡ true) → (b ≡ true → a ≡ true) → a ≡ b
bools_alike a b on back =
    grind arith

can_short : (bytes : List ℕ) → can_have_header bytes ≡ true → text_length bytes ≤ 65536
unfolding can_have_header
can_short bytes can =
    grind arith

header_on : (bytes others : List ℕ) → take 65581 others ≡ take 65581 bytes → 65581 < length others
    → has_header bytes ≡ true → has_header others ≡ true
header_on bytes others alike long has =
    header_alike 65581 bytes others alike long (omega arith) (omega (arith, can_short bytes (has_can bytes has))) has

study_alike : (bytes others : List ℕ) → take 65581 others ≡ take 65581 bytes → 65581 < length others
    → 65581 < length bytes → is_study others ≡ is_study bytes
study_alike bytes others alike long other =
    grind (arith, nat_tests, alike_place 65581 0 others bytes alike)

heads_alike : (v : Values) (bytes others : List ℕ) → length (canonical_text v) ≤ 65536
    → take 65581 others ≡ take 65581 bytes → 65581 < length others → 65581 < length bytes
    → head_reading v others ≡ head_reading v bytes
heads_alike v bytes others short alike long other =
    let first : take (gate_place v 0) others ≡ take (gate_place v 0) bytes =
    alike_prefix 65581 (gate_place v 0) others bytes alike (omega (arith, short, gate_first v)) in
    rw (
      study_alike bytes others alike long other,
      bools_alike (has_header others) (has_header bytes) (header_on others bytes (sym alike) other)
          (header_on bytes others alike long),
      says_alike v bytes others first,
      magic_alike v bytes others first,
    ) refl

cut_alike : (v : Values) (m : ℕ) (bytes : List ℕ) → m ≡ 65582 → length (canonical_text v) ≤ 65536
    → head_reading v (take m bytes) ≡ head_reading v bytes
cut_alike v m bytes is short = elim (cases_lt 65581 (length bytes)) [
  | inl long ↦ heads_alike v bytes (take m bytes) short (take-take 65581 m bytes (omega (arith, is)))
      (omega (arith, is, length-take-le m bytes (omega (arith, is, long)))) long
  | inr all ↦ ap (head_reading v) (take_all m bytes (omega (arith, is, all)))
]

head_cut : (v : Values) (bytes head : List ℕ) → length (canonical_text v) ≤ 65536 → head ≡ head_in bytes
    → head_reading v head ≡ head_reading v bytes
unfolding head_in
head_cut v bytes head short read = ap (head_reading v) read ∙ cut_alike v 65582 bytes refl short

-- ---- the head that was read of a disk

-- the whole file, or as much of it as the longest head has
pub head_read : (size count : ℕ) (bytes head : List ℕ) → size ≡ length bytes → count ≡ min size 65582
    → head ≡ slice_range bytes 0 count → head ≡ head_in bytes
unfolding head_in
head_read size count bytes head whole is read =
    let all : count ≡ min 65582 (length bytes) = omega arith in
    read ∙ between_is bytes 0 count ∙ ap (λ (n : ℕ). take n bytes) all ∙ take_min 65582 bytes

pub head_refuses : (v : Values) (old new : DiskState) (head : List ℕ) (fault : JournalFault)
    → length (canonical_text v) ≤ 65536 → new ≡ synced old → head ≡ head_in old.bytes
    → Err fault ≡ head_reading v head → IsRefused v fault old new
head_refuses v old new head fault short same read is =
    grind (arith, head_refused v old.bytes fault, head_cut v old.bytes head short read)

pub head_opens : (v : Values) (bytes head : List ℕ) (done : ⊤) → length (canonical_text v) ≤ 65536
    → head ≡ head_in bytes → Ok done ≡ head_reading v head → IsOfPlan v bytes
head_opens v bytes head done short read is = head_fine v bytes done (sym (head_cut v bytes head short read) ∙ sym is)

-- then its slips are those of the study
pub slips_of_head : (result : Result Slips JournalFault) (v : Values) (old new : DiskState) (head : List ℕ) (done : ⊤)
    → length (canonical_text v) ≤ 65536 → new ≡ synced old → head ≡ head_in old.bytes → Ok done ≡ head_reading v head
    → IfErr result IsSlipFault → AreRead result v new.bytes → Finds result v old new
slips_of_head result v old new head done short same read is faults are =
    grind (arith, plan_read v old.bytes (head_opens v old.bytes head done short read is))
