-- The text that a header says, and the plan whose text it is.
use Rattle.std.proofs.Common.{◌≡◌, ◌≤◌, ◌+◌, ◌-◌, ℕ, true, List, Ok, length}
use Rattle.std.proofs.Common.{drop, slice_range, arith, length-drop}
use Rattle.std.proofs.lemmas.List.{length-take}
use Rattle.std.proofs.lemmas.Slice.Eq.{bytes_eq-Decides}
use Rattle.cut_plan.specs.Accepted.{plan_of}
use Rattle.cut_plan.specs.Canonical.{canonical_text}
use Rattle.cut_plan.specs.Plan.{IsPlan}
use Rattle.cut_plan.specs.Values.{Values}
use Rattle.cut_journal.specs.Reading.{text_length, says_plan}

-- a plan can be read back from its canonical text
abbrev pub ReadsBack : Type 0
ReadsBack = (v : Values) → IsPlan v → plan_of (canonical_text v) ≡ Ok v

-- ---- the text of a plan

pub says_text : (v : Values) (bytes : List ℕ) → says_plan v bytes ≡ true
    → slice_range bytes 13 (text_length bytes + 13) ≡ canonical_text v
unfolding says_plan
says_text v bytes says =
    grind (arith, bytes_eq-Decides)

length_part : (bytes : List ℕ) (n : ℕ) → n + 13 ≤ length bytes → length (slice_range bytes 13 (n + 13)) ≡ n
length_part bytes n within = omega (arith, length-take (n + 13 - 13) (drop 13 bytes), length-drop 13 bytes)

pub text_says : (v : Values) (bytes : List ℕ) → text_length bytes + 13 ≤ length bytes
    → slice_range bytes 13 (text_length bytes + 13) ≡ canonical_text v → says_plan v bytes ≡ true
unfolding says_plan
text_says v bytes within is =
    grind (arith, length_part, bytes_eq-Decides)

-- a header says the text of one plan at most
pub same_plan : ReadsBack → (v w : Values) (bytes : List ℕ) → IsPlan v → IsPlan w → says_plan v bytes ≡ true
    → says_plan w bytes ≡ true → v ≡ w
same_plan back v w bytes plan other says too =
    grind (arith, says_text)
