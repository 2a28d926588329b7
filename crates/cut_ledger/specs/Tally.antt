-- Slips that are judged one after another, if no list of them is kept.
use Rattle.std.specs.Prelude.{◌≡◌, ℕ, Bool, false, List, length, Option, Some, None, slice_index_or}
use Rattle.std.specs.List.{list_all}
use Rattle.cut_plan.specs.Values.{Values}
use Rattle.cut_outcome.specs.Sum.{trials_of_cell}
use Rattle.cut_ledger.specs.declared.slip.Slip.{Slip}
use Rattle.cut_ledger.specs.Contents.{is_in_base}
use Rattle.cut_ledger.specs.Slips.{AreGood, IsFirstBad}

-- what is kept of them: the plan; of each trial whether it is held; how many slips there are, up to the first that is
-- not good; and its number, from 1, if there is one
pub record Tally : Type 0 where
  pub plan : Values
  pub held : List Bool
  pub slips : ℕ
  pub refused : Option ℕ

-- whether trial t is held
abbrev pub has_trial : Tally → ℕ → Bool
has_trial a t = slice_index_or a.held t false

-- whether every trial of cell number c is
abbrev pub has_cell : Tally → ℕ → Bool
has_cell a c = list_all (has_trial a) (trials_of_cell a.plan c)

-- a tally over slips: all of them are good, they are counted, and their trials are held and no other
pub record IsTallyOver (a : Tally) (ss : List Slip) : Type 0 where
  pub good : AreGood a.plan ss
  pub counted : a.slips ≡ length ss
  pub exactly : (t : ℕ) → has_trial a t ≡ is_in_base ss t

-- as one of them is refused or none is
abbrev pub HasJudged : Option ℕ → Tally → List Slip → Type 0
HasJudged None a ss = IsTallyOver a ss
HasJudged (Some n) a ss = IsFirstBad a.plan ss n

-- these slips were added to a tally, in this order: it is one over them, or it refused the first that is not good
abbrev pub HasAdded : Tally → List Slip → Type 0
HasAdded a ss = HasJudged a.refused a ss
