-- Slips that were judged against a plan.
use Rattle.std.specs.Prelude.{List}
use Rattle.cut_plan.specs.Values.{Values}
use Rattle.cut_ledger.specs.declared.slip.Slip.{Slip}

-- a plan, and slips with which a ledger of it can begin
pub record AcceptedValue : Type 0 where
  pub plan : Values
  pub slips : List Slip
