-- A wire in memory as contracts see it, and what its calls do.
use Rattle.std.specs.Prelude.{ℕ, List}
use Rattle.cut_wires.specs.Log.{Traffic, Failed}

-- the bytes of its input, what passed over it, how many bytes a call moves at most, and how many of its calls
-- failed
pub record MemoryWireValue : Type 0 where
  pub input : List ℕ
  pub traffic : Traffic
  pub per : ℕ
  pub failed : Failed
