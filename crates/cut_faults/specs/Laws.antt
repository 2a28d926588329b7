-- Laws of the list of faults, and of counts of failures.
use Rattle.std.specs.Prelude.{◌≡◌, ℕ, ◌-◌, ◌^◌, ◌≤◌, Some}
use Rattle.cut_faults.specs.declared.code.FaultCode.{FaultCode}
use Rattle.cut_faults.specs.Codes.{number_of, code_numbered}
use Rattle.cut_faults.specs.Failures.{one_more, HasRisen}

-- a fault's number names that fault
abbrev pub NumbersName : Type 0
NumbersName = (code : FaultCode) → code_numbered (number_of code) ≡ Some code

-- so no two faults have one number
abbrev pub NumbersDiffer : Type 0
NumbersDiffer = (a b : FaultCode) → number_of a ≡ number_of b → a ≡ b

-- a count of 64 bits with one more failure has risen
abbrev pub OneMoreHasRisen : Type 0
OneMoreHasRisen = (n : ℕ) → n ≤ 2 ^ 64 - 1 → HasRisen n (one_more n)
