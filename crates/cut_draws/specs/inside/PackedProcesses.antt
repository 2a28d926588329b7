-- Processes in numbers of 8 bytes: the process in the low 16 bits, under the high 48 bits of its key.
use Rattle.std.specs.Prelude.{ℕ, ◌+◌, ◌*◌, ◌/◌, ◌%◌, ◌<◌, List, length}
use Rattle.std.specs.List.{AllAdjacentBelow}

-- a process under a key
abbrev pub packed_process : ℕ → ℕ → ℕ
packed_process key p = key / 65536 * 65536 + p

-- the process that a number holds
abbrev pub process_in : ℕ → ℕ
process_in w = w % 65536

-- the part of each key that is packed is less than the next
abbrev pub AreProcessesRising : List ℕ → Type 0
AreProcessesRising ws = AllAdjacentBelow (λ v w. v / 65536 < w / 65536) ws (length ws)
