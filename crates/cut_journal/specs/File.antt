-- The file in which a study's slips are kept, byte for byte (this project's format). Numbers are written with
-- the high byte first.
use Rattle.std.specs.Prelude.{ℕ, ◌≡◌, ◌+◌, ◌++◌, List, [], ◌∷◌, length, codes, ⊤}
use Rattle.std.specs.List.{flat_map}
use Rattle.std.specs.Int.{w32, w64, to_be_bytes}
use Rattle.sha2.specs.Sha256.{sha256}
use Rattle.cut_fields.specs.declared.version.Version.{Version}
use Rattle.cut_fields.specs.declared.version.Version.TheVariants.{One, Two}
use Rattle.cut_plan.specs.Failing.{version_of}
use Rattle.cut_plan.specs.Values.{Values}
use Rattle.cut_plan.specs.Canonical.{canonical_text}
use Rattle.cut_outcome.specs.declared.totals.Totals.{Totals}
use Rattle.cut_ledger.specs.declared.slip.Slip.{Slip}

-- a gate is a byte that says whether what follows it counts: it is open if it is this byte, and closed if it is any
-- other; closed gates are written as 0
abbrev pub open_gate : ℕ
open_gate = 165

abbrev pub closed_gate : ℕ
closed_gate = 0

-- ---- what differs by the version of the plan

-- the letters that a header begins with
abbrev pub magic_of : Version → List ℕ
magic_of One = codes "CUTLAB01"
magic_of Two = codes "CUTLAB02"

-- how many bytes the numbers of a slip take: nine numbers, and in version 2 ten
abbrev pub numbers_length : Version → ℕ
numbers_length One = 72
numbers_length Two = 80

-- the number of `settled`, which a slip of version 1 does not have
abbrev pub settled_number : Version → Totals → List ℕ
settled_number One x = []
settled_number Two x = x.settled ∷ []

-- a slip of a version keeps all of these totals: `settled` is 0 if it is not kept
abbrev pub HoldsAllTotals : Version → Totals → Type 0
HoldsAllTotals One x = x.settled ≡ 0
HoldsAllTotals Two x = ⊤

-- how many bytes a slip has: its gate, its numbers, and a digest
abbrev pub slip_length : Version → ℕ
slip_length version = numbers_length version + 33

-- ---- the file

-- the header: eight letters, the length of the plan's canonical text, and that text
unfoldable pub header_of : Values → List ℕ
header_of v = magic_of (version_of v.failing) ++ to_be_bytes w32 (length (canonical_text v)) ++ canonical_text v

unfoldable pub header_digest : Values → List ℕ
header_digest v = sha256 (header_of v)

-- what a study's file begins with: the open gate of the study, the header, and the header's digest
unfoldable pub prefix_of : Values → List ℕ
prefix_of v = open_gate ∷ header_of v ++ header_digest v

-- the numbers of a slip, in order
abbrev pub numbers_of : Version → Slip → List ℕ
numbers_of version s =
    s.piece.first ∷ s.piece.count ∷ s.totals.receivers ∷ s.totals.conflicts ∷ s.totals.silent
    ∷ s.totals.extra ∷ s.totals.votes ∷ s.totals.decided ∷ s.totals.right
    ∷ settled_number version s.totals

-- each of them in 8 bytes
unfoldable pub number_bytes : Version → Slip → List ℕ
number_bytes version s = flat_map (to_be_bytes w64) (numbers_of version s)

-- what follows a slip's gate: its numbers, and the digest of the header's digest and of these
unfoldable pub body_of : Values → Slip → List ℕ
body_of v s =
    number_bytes (version_of v.failing) s ++ sha256 (header_digest v ++ number_bytes (version_of v.failing) s)

-- the file of a study with these slips: they stand after open gates, and the next gate is closed
abbrev pub file_of : Values → List Slip → List ℕ
file_of v slips = prefix_of v ++ flat_map (λ s. open_gate ∷ body_of v s) slips ++ closed_gate ∷ []
