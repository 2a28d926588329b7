-- What a command does with a plan that it has read.
use Rattle.std.specs.Prelude.{ℕ, List}
use Rattle.cut_plan.specs.Values.{Values}
use Rattle.cut_commands.specs.declared.fault.CliFault.{CliFault}

-- which bytes may be the whole of its answer to a plan, and by which faults of its own it may fail with one
pub record Task : Type 1 where
  pub answers : Values → List ℕ → Type 0
  pub fails : Values → CliFault → Type 0
