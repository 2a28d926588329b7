-- Laws of gaps, of the pieces that they are cut into, and of plans that are the same.
use Rattle.std.specs.Prelude.{◌≡◌, ℕ, ◌<◌, ◌≤◌, ◌↔◌, not, filter, List, [], Some, fold, length, take, slice_get, true}
use Rattle.std.specs.Prelude.{false, IsTrue}
use Rattle.std.specs.List.{flat_map, list_any}
use Rattle.cut_plan.specs.Cells.{cells_of}
use Rattle.cut_plan.specs.Plan.{IsPlan}
use Rattle.cut_plan.specs.Values.{Values}
use Rattle.cut_outcome.specs.declared.piece.Piece.{Piece}
use Rattle.cut_outcome.specs.Sum.{is_piece, sum_of, trials_in, trials_of_cell}
use Rattle.cut_ledger.specs.lines.Lines.{table}
use Rattle.cut_ledger.specs.declared.slip.Slip.{Slip}
use Rattle.cut_ledger.specs.Contents.{Contents, has, all_trials, over_base, with_piece, overlaps, cell_done}
use Rattle.cut_ledger.specs.Contents.{is_complete, is_in_base}
use Rattle.cut_ledger.specs.Gaps.{gaps_of, pieces_of}
use Rattle.cut_ledger.specs.Machine.{available}
use Rattle.cut_ledger.specs.Table.{full_sum, table_over}
use Rattle.cut_ledger.specs.Refusals.{is_same_plan}
use Rattle.cut_ledger.specs.Slips.{AreGood}
use Rattle.cut_ledger.specs.World.{AreTrue}

-- the gaps, trial by trial, are the trials that are not held: each once, ascending
abbrev pub GapsCover : Type 0
GapsCover = (l : Contents) → flat_map trials_in (gaps_of l) ≡ filter (λ t. not (has l t)) (all_trials l.plan)

-- and so are the pieces of any size that they are cut into
abbrev pub PiecesCover : Type 0
PiecesCover =
    (l : Contents) (size : ℕ) → 1 ≤ size →
    flat_map trials_in (pieces_of l size) ≡ filter (λ t. not (has l t)) (all_trials l.plan)

-- two accepted plans are the same if they are equal
abbrev pub SamePlansAreEqual : Type 0
SamePlansAreEqual = (a b : Values) → IsPlan a → IsPlan b → IsTrue (is_same_plan a b) ↔ (a ≡ b)

-- a ledger to which pieces are added, one after another
abbrev pub with_pieces : Contents → List Piece → Contents
with_pieces l ps = fold with_piece l ps

-- pieces that can be added in their order, each of them free of those before it, and that hold every trial then;
-- the plan stays
pub record AreFilling (l : Contents) (ps : List Piece) : Type 0 where
  pub plan : (i : ℕ) → (with_pieces l (take i ps)).plan ≡ l.plan
  pub apart : (i : ℕ) (p : Piece) → slice_get ps i ≡ Some p → overlaps (with_pieces l (take i ps)) p ≡ false
  pub complete : is_complete (with_pieces l ps) ≡ true

-- the pieces of any size that the gaps of a ledger are cut into are such
abbrev pub PiecesFill : Type 0
PiecesFill = (l : Contents) (size : ℕ) → 1 ≤ size → AreFilling l (pieces_of l size)

-- and what can be written then is the table over the ledger's slips
abbrev pub FilledGiveTheirTable : Type 0
FilledGiveTheirTable =
    (v : Values) (ss : List Slip) (size : ℕ) → 1 ≤ size
    → available (with_pieces (over_base v ss) (pieces_of (over_base v ss) size)) ≡ table_over v ss

-- a piece of a plan has a trial that is in slips where the ledger that begins with them holds one of its trials
abbrev pub SlipsMeetInTheirLedger : Type 0
SlipsMeetInTheirLedger =
    (v : Values) (ss : List Slip) (p : Piece) → IsTrue (is_piece v p)
    → list_any (is_in_base ss) (trials_in p) ≡ overlaps (over_base v ss) p

-- slips that are true and apart are good ones to begin a ledger with
abbrev pub TrueSlipsAreGood : Type 0
TrueSlipsAreGood = (v : Values) (ss : List Slip) → AreTrue v ss → AreGood v ss

-- and the table over them is the table of the plan
abbrev pub TrueSlipsGiveTheTable : Type 0
TrueSlipsGiveTheTable = (v : Values) (ss : List Slip) → IsPlan v → AreTrue v ss → table_over v ss ≡ table v

-- and what such slips and the trials that they lack make of each cell are the sums over its trials
abbrev pub TrueSlipsSumAll : Type 0
TrueSlipsSumAll =
    (v : Values) (ss : List Slip) → IsPlan v → AreTrue v ss → (c : ℕ) → c < length (cells_of v)
    → full_sum v ss c ≡ sum_of v (trials_of_cell v c)

-- no slips are true ones
abbrev pub NoSlipsAreTrue : Type 0
NoSlipsAreTrue = (v : Values) → AreTrue v []

-- where every trial of a ledger is held, every cell is done
abbrev pub CompleteIsDone : Type 0
CompleteIsDone = (l : Contents) → is_complete l ≡ true → (c : ℕ) → c < length (cells_of l.plan) → cell_done l c ≡ true
