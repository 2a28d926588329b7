-- Laws of joined slips.
use Rattle.std.specs.Prelude.{◌≡◌, ◌≢◌, ℕ, ◌+◌, ◌/◌, ◌≤◌, ◌<◌, List, length, slice_index_or}
use Rattle.cut_plan.specs.Plan.{IsPlan}
use Rattle.cut_plan.specs.Values.{Values}
use Rattle.cut_ledger.specs.lines.Lines.{table}
use Rattle.cut_ledger.specs.declared.slip.Slip.{Slip}
use Rattle.cut_ledger.specs.Contents.{is_in_base}
use Rattle.cut_ledger.specs.Table.{table_over}
use Rattle.cut_ledger.specs.Slips.{AreGood}
use Rattle.cut_ledger.specs.World.{AreTrue}
use Rattle.cut_shares.specs.join.Joined.{joined}

-- joined slips have exactly the trials of the slips
abbrev pub JoinedHaveTheTrials : Type 0
JoinedHaveTheTrials =
    (v : Values) (ss : List Slip) → AreGood v ss → (t : ℕ) → is_in_base (joined v ss) t ≡ is_in_base ss t

-- a ledger can begin with them
abbrev pub JoinedAreGood : Type 0
JoinedAreGood = (v : Values) (ss : List Slip) → IsPlan v → AreGood v ss → AreGood v (joined v ss)

-- those of true slips are true
abbrev pub JoinedAreTrue : Type 0
JoinedAreTrue = (v : Values) (ss : List Slip) → IsPlan v → AreTrue v ss → AreTrue v (joined v ss)

-- the table over slips is the table over the joined ones
abbrev pub JoinedGiveTheTable : Type 0
JoinedGiveTheTable =
    (v : Values) (ss : List Slip) → IsPlan v → AreGood v ss → table_over v (joined v ss) ≡ table_over v ss

-- and over those of true slips it is the plan's
abbrev pub JoinedGiveThePlansTable : Type 0
JoinedGiveThePlansTable =
    (v : Values) (ss : List Slip) → IsPlan v → AreTrue v ss → table_over v (joined v ss) ≡ table v

-- a slip that begins where another ends, or later; and if it goes on from there, it is of another cell
abbrev pub IsApartFrom : Values → Slip → Slip → Type 0
IsApartFrom v s next =
    (s.piece.first + s.piece.count ≤ next.piece.first)
    × (s.piece.first + s.piece.count ≡ next.piece.first
    → s.piece.first / v.repeats ≢ next.piece.first / v.repeats)

-- slips that ascend, none of which goes on in its cell where the one before it ends
abbrev pub AreApart : Values → List Slip → Type 0
AreApart v ss =
    (i : ℕ) (d : Slip) → i + 1 < length ss → IsApartFrom v (slice_index_or ss i d) (slice_index_or ss (i + 1) d)

-- joined slips can't be joined further
abbrev pub JoinedAreApart : Type 0
JoinedAreApart = (v : Values) (ss : List Slip) → AreGood v ss → AreApart v (joined v ss)
