-- Where the slips of a file stand. Only the crate's private clauses cite it.
use Rattle.std.specs.Prelude.{ℕ, ◌+◌, ◌*◌, ◌==◌, ◌&&◌, Bool, List, length, map, slice_index, slice_range, nat_lt}
use Rattle.std.specs.List.{range_with_len}
use Rattle.cut_plan.specs.Failing.{version_of}
use Rattle.cut_plan.specs.Canonical.{canonical_text}
use Rattle.cut_plan.specs.Values.{Values}
use Rattle.cut_ledger.specs.declared.slip.Slip.{Slip}
use Rattle.cut_journal.specs.File.{open_gate, slip_length}
use Rattle.cut_journal.specs.Reading.{body_in, is_slip, slip_in}

-- the place of the gate of a slip, the first being number 0: slips stand one after another
unfoldable pub gate_place : Values → ℕ → ℕ
gate_place v i = length (canonical_text v) + 45 + slip_length (version_of v.failing) * i

-- whether the gate of a slip is open, the first being number 0
abbrev pub is_open : Values → List ℕ → ℕ → Bool
is_open v bytes i = slice_index bytes (gate_place v i) == open_gate

-- what stands between that gate and the next
abbrev pub body_at : Values → List ℕ → ℕ → List ℕ
body_at v bytes i = slice_range bytes (gate_place v i + 1) (gate_place v (i + 1))

-- whether a slip is whole: it is one, and the next gate is there
abbrev pub is_whole : Values → List ℕ → ℕ → Bool
is_whole v bytes i = nat_lt (gate_place v (i + 1)) (length bytes) && is_slip v (body_at v bytes i)

-- the same of what is left of the bytes from a gate on
abbrev pub opens : List ℕ → Bool
opens rest = slice_index rest 0 == open_gate

abbrev pub has_slip : Values → List ℕ → Bool
has_slip v rest = nat_lt (slip_length (version_of v.failing)) (length rest) && is_slip v (body_in v rest)

-- the first slips, this many
abbrev pub first_slips : Values → List ℕ → ℕ → List Slip
first_slips v bytes n = map (λ i. slip_in (version_of v.failing) (body_at v bytes i)) (range_with_len 0 n)
