-- A wire in memory that fails where its maker said, as contracts see it, and what its calls do.
use Rattle.std.specs.Prelude.{ℕ, Option}
use Rattle.cut_wires.specs.Memory.{MemoryWireValue}

-- the wire in memory, how many bytes its writes may still take before one fails (none where one has failed
-- already), and how many reads from now the one that fails is (0 where none will)
pub record FaultyWireValue : Type 0 where
  pub memory : MemoryWireValue
  pub room : Option ℕ
  pub fail_in : ℕ
