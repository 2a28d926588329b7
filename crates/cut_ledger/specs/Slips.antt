-- Which slips a ledger can begin with.
use Rattle.std.specs.Prelude.{◌≡◌, ℕ, ◌-◌, ◌≤◌, ◌<◌, false, List, length, take, slice_index_or, IsTrue, ⊤}
use Rattle.std.specs.List.{list_any}
use Rattle.cut_plan.specs.Values.{Values}
use Rattle.cut_outcome.specs.Outcome.{cell_at}
use Rattle.cut_outcome.specs.Possible.{ArePossible}
use Rattle.cut_outcome.specs.Sum.{is_piece, trials_in}
use Rattle.cut_ledger.specs.declared.slip.Slip.{Slip}
use Rattle.cut_ledger.specs.declared.slips_fault.SlipsFault.{SlipsFault}
use Rattle.cut_ledger.specs.declared.slips_fault.SlipsFault.TheVariants.{Memory, BadSlip}
use Rattle.cut_ledger.specs.Contents.{is_in_base}

-- a good slip, after others: of a piece, none of whose trials they have, with totals that are possible
pub record IsGood (v : Values) (earlier : List Slip) (s : Slip) : Type 0 where
  pub piece : IsTrue (is_piece v s.piece)
  pub apart : list_any (is_in_base earlier) (trials_in s.piece) ≡ false
  pub possible : ArePossible v (cell_at v s.piece.first) s.piece.count s.totals

-- the first n slips are good, each after those before it
abbrev pub AreGoodUpTo : Values → List Slip → ℕ → Type 0
AreGoodUpTo v ss n =
    (i : ℕ) (d : Slip) → i < n → i < length ss → IsGood v (take i ss) (slice_index_or ss i d)

-- all of them are
abbrev pub AreGood : Values → List Slip → Type 0
AreGood v ss = AreGoodUpTo v ss (length ss)

-- slip number n, from 1, is the first that is not good
pub record IsFirstBad (v : Values) (ss : List Slip) (n : ℕ) : Type 0 where
  pub numbered : 1 ≤ n
  pub within : n ≤ length ss
  pub earlier : AreGoodUpTo v ss (n - 1)
  pub bad : (d : Slip) → IsGood v (take (n - 1) ss) (slice_index_or ss (n - 1) d) → ⊥

-- what a fault says of slips: memory ran out, which says nothing of them, or it names the first bad one
abbrev pub IsFaultOfSlips : Values → List Slip → SlipsFault → Type 0
IsFaultOfSlips v ss Memory = ⊤
IsFaultOfSlips v ss (BadSlip n) = IsFirstBad v ss n
