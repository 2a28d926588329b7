-- What the bytes of a file say: the slips of a study of a plan, or why they don't say any (this project's
-- format).
use Rattle.std.specs.Prelude.{ℕ, zero, suc, ◌+◌, ◌*◌, ◌^◌, ◌==◌, ◌&&◌, ◌||◌, ◌++◌, Bool, not, List, [], ◌∷◌, length}
use Rattle.std.specs.Prelude.{take, drop, slice_index, slice_range, nat_lt, nat_le, bytes_eq, if◌then◌else◌, Result, Ok}
use Rattle.std.specs.Prelude.{Err}
use Rattle.std.specs.Int.{w32, w64, from_be_bytes}
use Rattle.cut_plan.specs.declared.limits.TheConstants.{LONGEST_TEXT}
use Rattle.sha2.specs.Sha256.{sha256}
use Rattle.cut_fields.specs.declared.version.Version.{Version}
use Rattle.cut_fields.specs.declared.version.Version.TheVariants.{One, Two}
use Rattle.cut_plan.specs.Failing.{version_of}
use Rattle.cut_plan.specs.Canonical.{canonical_text}
use Rattle.cut_plan.specs.Values.{Values}
use Rattle.cut_ledger.specs.declared.slip.Slip.{Slip}
use Rattle.cut_journal.specs.declared.fault.JournalFault.{JournalFault}
use Rattle.cut_journal.specs.declared.fault.JournalFault.TheVariants.{NoStudy, Damaged, OtherPlan}
use Rattle.cut_journal.specs.File.{open_gate, magic_of, numbers_length, slip_length, header_digest}

-- ---- the header

-- whether there is a study, of whichever plan: more than one byte, and the gate of the study open
abbrev pub is_study : List ℕ → Bool
is_study bytes = nat_lt 1 (length bytes) && (slice_index bytes 0 == open_gate)

-- the length that the header says of the plan's text
abbrev pub text_length : List ℕ → ℕ
text_length bytes = from_be_bytes w32 (slice_range bytes 9 13)

-- whether letters are those of a version
unfoldable pub is_magic : List ℕ → Bool
is_magic letters = bytes_eq letters (magic_of One) || bytes_eq letters (magic_of Two)

-- whether a header of that length, of either version, can be there, with the gate of a first slip
unfoldable pub can_have_header : List ℕ → Bool
can_have_header bytes =
    nat_le 13 (length bytes) && is_magic (slice_range bytes 1 9)
    && nat_le (text_length bytes) LONGEST_TEXT && nat_le (text_length bytes + 46) (length bytes)

-- whether there is a whole header, of whichever plan, and the gate of a first slip
unfoldable pub has_header : List ℕ → Bool
has_header bytes =
    can_have_header bytes
    && bytes_eq (sha256 (slice_range bytes 1 (text_length bytes + 13)))
    (slice_range bytes (text_length bytes + 13) (text_length bytes + 45))

-- whether the header says the text of this plan
unfoldable pub says_plan : Values → List ℕ → Bool
says_plan v bytes =
    (text_length bytes == length (canonical_text v))
    && bytes_eq (slice_range bytes 13 (text_length bytes + 13)) (canonical_text v)

-- whether it begins with the letters of this plan's version
unfoldable pub has_magic : Values → List ℕ → Bool
has_magic v bytes = bytes_eq (slice_range bytes 1 9) (magic_of (version_of v.failing))

-- ---- a slip, by what follows its gate

-- a number of a slip
unfoldable pub number_at : List ℕ → ℕ → ℕ
number_at body i = from_be_bytes w64 (slice_range body (8 * i) (8 * i + 8))

-- the number of `settled`: 0 for a slip of version 1
abbrev pub settled_at : Version → List ℕ → ℕ
settled_at One body = 0
settled_at Two body = number_at body 9

abbrev pub slip_in : Version → List ℕ → Slip
slip_in version body = record {
  piece = record { first = number_at body 0; count = number_at body 1 };
  totals = record {
    receivers = number_at body 2;
    conflicts = number_at body 3;
    silent = number_at body 4;
    extra = number_at body 5;
    votes = number_at body 6;
    decided = number_at body 7;
    right = number_at body 8;
    settled = settled_at version body;
  };
}

-- whether it is a slip that was written whole: its digest is right, and the numbers of its piece have 32 bits
unfoldable pub is_slip : Values → List ℕ → Bool
is_slip v body =
    bytes_eq (sha256 (header_digest v ++ take (numbers_length (version_of v.failing)) body))
    (drop (numbers_length (version_of v.failing)) body)
    && nat_lt (number_at body 0) (2 ^ 32) && nat_lt (number_at body 1) (2 ^ 32)

-- ---- the slips, by what is left of the bytes from a gate on

-- what stands after the gate, up to the next
abbrev pub body_in : Values → List ℕ → List ℕ
body_in v rest = slice_range rest 1 (slip_length (version_of v.failing))

-- a slip, and those that are read after it
abbrev pub then_slips : Slip → Result (List Slip) JournalFault → Result (List Slip) JournalFault
then_slips slip (Ok slips) = Ok (slip ∷ slips)
then_slips slip (Err fault) = Err fault

-- the slips after open gates, up to the first closed one; or the number of the first that is not whole, which is not a
-- slip or has no gate after it. The next slip has this number, and fewer are left than `more`
abbrev pub slips_in : Values → ℕ → ℕ → List ℕ → Result (List Slip) JournalFault
slips_in v zero number rest = Err (Damaged number)
slips_in v (suc more) number rest =
    if not (slice_index rest 0 == open_gate) then Ok []
    else (if not (nat_lt (slip_length (version_of v.failing)) (length rest) && is_slip v (body_in v rest)) then Err
    (Damaged number)
    else then_slips (slip_in (version_of v.failing) (body_in v rest))
    (slips_in v more (number + 1) (drop (slip_length (version_of v.failing)) rest)))

-- ---- the reading

-- the slips of a study of this plan, which are fewer than bytes; the first has number 1
unfoldable pub slips_reading : Values → List ℕ → Result (List Slip) JournalFault
slips_reading v bytes = slips_in v (length bytes) 1 (drop (length (canonical_text v) + 45) bytes)

-- what the bytes say, read as a study of this plan, reported in this order: whether there is a study, whether its
-- header is whole, whether it is of this plan, whether its letters are those of the plan's version, and the slips
unfoldable pub reading : Values → List ℕ → Result (List Slip) JournalFault
reading v bytes =
    if not (is_study bytes) then Err NoStudy
    else (if not (has_header bytes) then Err (Damaged 0)
    else (if not (says_plan v bytes) then Err OtherPlan
    else (if not (has_magic v bytes) then Err (Damaged 0) else slips_reading v bytes)))
