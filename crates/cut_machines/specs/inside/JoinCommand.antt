-- What only the crate's own clauses and proofs cite, beside specs/JoinCommand.antt.
use Rattle.std.specs.Prelude.{◌≡◌, ℕ, Option, None, Result, Ok, Err, String, string_bytes}
use Rattle.std.specs.Global.{Global}
use Rattle.cut_plan.specs.Values.{Values}
use Rattle.cut_commands.specs.declared.fault.CliFault.{CliFault}
use Rattle.cut_commands.specs.declared.fault.CliFault.TheVariants.{Journal}
use Rattle.cut_machines.specs.JoinCommand.{JoinFiles, JoinWrites, RefusesOld, StopsJoin}

-- which old file is refused, where not all slips were joined
abbrev pub NamesOld : JoinFiles → Values → CliFault → Option ℕ → Type 0
NamesOld files v (Journal fault) refused = RefusesOld files v fault refused
NamesOld files v fault refused = refused ≡ None

-- how a join ends before its answer is written: this is the answer, or there is none
abbrev pub EndsJoining : JoinFiles → Values → Result (String Global) CliFault → Option ℕ → Type 0
EndsJoining files v (Ok text) refused = JoinWrites files v (string_bytes text) × (refused ≡ None)
EndsJoining files v (Err fault) refused = StopsJoin files v fault × NamesOld files v fault refused
