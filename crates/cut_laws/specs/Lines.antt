-- The laws on the lines of a plan's table: each has the sums over the trials of one cell.
use Rattle.std.specs.Prelude.{◌≡◌, ℕ, ◌-◌, ◌/◌, ◌<◌, ◌≤◌, Bool, length, slice_index_or, All}
use Rattle.cut_plan.specs.declared.cell.Cell.{Cell}
use Rattle.cut_plan.specs.Cells.{cells_of, trial_count}
use Rattle.cut_plan.specs.Plan.{IsPlan}
use Rattle.cut_plan.specs.Values.{Values}
use Rattle.cut_fields.specs.declared.version.Version.TheVariants.{Two}
use Rattle.cut_plan.specs.Failing.{version_of}
use Rattle.cut_outcome.specs.declared.totals.Totals.{Totals}
use Rattle.cut_outcome.specs.Laws.{AreMoreCautious, OnlyCrashes}
use Rattle.cut_outcome.specs.Outcome.{cell_at, no_cell}
use Rattle.cut_outcome.specs.Sum.{sum_of, trials_of_cell}
use Rattle.cut_laws.specs.Columns.{HasNoTargets, HasVotesOfTheRight, IsRightUnlessLost, IsWrongByVerdicts}
use Rattle.cut_laws.specs.Columns.{NoneIsDecided}
use Rattle.cut_laws.specs.EqualWatermarks.{with_implicit}
use Rattle.cut_laws.specs.OneCrash.{AreOneCrash, IsSettledByH}
use Rattle.cut_laws.specs.OtherWatermarks.{MayLowerL, MayRaiseH, with_h, with_l}
use Rattle.cut_laws.specs.Trials.{IsAllConflicts}

-- the cell of line i
abbrev pub cell_of_line : Values → ℕ → Cell
cell_of_line v i = slice_index_or (cells_of v) i no_cell

-- its numbers
abbrev pub line_at : Values → ℕ → Totals
line_at v i = sum_of v (trials_of_cell v i)

-- a line of the table of a plan
pub record IsLine (v : Values) (i : ℕ) : Type 0 where
  pub plan : IsPlan v
  pub listed : i < length (cells_of v)

-- its trials are trials of the plan, of its cell
abbrev pub TrialsAreOfTheirLine : Type 0
TrialsAreOfTheirLine =
    (v : Values) (i : ℕ) → IsLine v i →
    All (λ t. (t < trial_count v) × (cell_at v t ≡ cell_of_line v i)) (trials_of_cell v i)

-- ---- the numbers of one line

-- what they say of each other on every line
pub record HasLineBounds (v : Values) (i : ℕ) : Type 0 where
  pub wrong : IsWrongByVerdicts v (line_at v i)
  pub votes : HasVotesOfTheRight (line_at v i)
  pub right : IsRightUnlessLost v.nodes (cell_of_line v i).f v.repeats (line_at v i)

abbrev pub EachLineIsWithinBounds : Type 0
EachLineIsWithinBounds = (v : Values) (i : ℕ) → IsLine v i → HasLineBounds v i

-- if more fail than a quorum can lack
abbrev pub TooManyFailedOnALine : Type 0
TooManyFailedOnALine =
    (v : Values) (i : ℕ) → IsLine v i → (v.nodes - 1) / 4 < (cell_of_line v i).f → NoneIsDecided (line_at v i)

-- if none fails
abbrev pub NoneFailedOnALine : Type 0
NoneFailedOnALine = (v : Values) (i : ℕ) → IsLine v i → (cell_of_line v i).f ≡ 0 → HasNoTargets (line_at v i)

-- where one crashes and nothing else fails
abbrev pub OneCrashOnALine : Type 0
OneCrashOnALine =
    (v : Values) (i : ℕ) → IsLine v i → OnlyCrashes v → (cell_of_line v i).f ≡ 1 →
    AreOneCrash v.nodes v.repeats (line_at v i)

-- and each receiver waits for H alerts
abbrev pub OneCrashIsSettledOnALine : Type 0
OneCrashIsSettledOnALine =
    (v : Values) (i : ℕ) → IsLine v i → OnlyCrashes v → version_of v.failing ≡ Two → (cell_of_line v i).f ≡ 1 →
    IsSettledByH (cell_of_line v i).h v.copies (line_at v i)

-- where L = H and two fail or more
abbrev pub NoGapOnALine : Type 0
NoGapOnALine =
    (v : Values) (i : ℕ) → IsLine v i → (cell_of_line v i).l ≡ (cell_of_line v i).h → 2 ≤ (cell_of_line v i).f →
    IsAllConflicts (line_at v i)

-- ---- the same line of two tables

-- of plans that differ in implicit alerts alone, where L = H
abbrev pub ImplicitAlertsChangeNoLine : Type 0
ImplicitAlertsChangeNoLine =
    (v : Values) (implicit : Bool) (i : ℕ) → IsLine v i → (cell_of_line v i).l ≡ (cell_of_line v i).h →
    line_at (with_implicit v implicit) i ≡ line_at v i

-- of plans that differ in their one H alone
abbrev pub AHigherHOnEachLine : Type 0
AHigherHOnEachLine =
    (v : Values) (x y i : ℕ) → MayRaiseH v x y → AreMoreCautious (line_at v i) (line_at (with_h v y) i)

-- of plans without implicit alerts that differ in their one L alone
abbrev pub ALowerLOnEachLine : Type 0
ALowerLOnEachLine =
    (v : Values) (x y i : ℕ) → MayLowerL v x y → AreMoreCautious (line_at v i) (line_at (with_l v y) i)
