-- How much of a study is kept in slips, and what is printed of it.
use Rattle.std.specs.Prelude.{ℕ, ◌++◌, List, [], ◌∷◌, codes, count_by, length}
use Rattle.std.specs.List.{list_all, range_with_len}
use Rattle.std.specs.Fmt.{decimal}
use Rattle.cut_plan.specs.Canonical.{canonical_text}
use Rattle.cut_plan.specs.Cells.{cells_of, trial_count}
use Rattle.cut_plan.specs.Values.{Values}
use Rattle.cut_ledger.specs.declared.slip.Slip.{Slip}
use Rattle.cut_outcome.specs.Sum.{trials_of_cell}
use Rattle.cut_ledger.specs.Contents.{all_trials, is_in_base}

-- how many trials are held, of how many; how many cells are done, of how many; how many slips there are; and the
-- canonical text of the plan
pub record StatusValue : Type 0 where
  pub held : ℕ
  pub trials : ℕ
  pub done : ℕ
  pub cells : ℕ
  pub slips : ℕ
  pub text : List ℕ

-- how many trials of a plan are in some slip's piece
abbrev pub held_trials : Values → List Slip → ℕ
held_trials v ss = count_by (is_in_base ss) (all_trials v)

-- how many cells of a plan are done: each trial of theirs is in some slip's piece
abbrev pub done_cells : Values → List Slip → ℕ
done_cells v ss =
    count_by (λ c. list_all (is_in_base ss) (trials_of_cell v c)) (range_with_len 0 (length (cells_of v)))

-- the status of a plan's study with these slips
abbrev pub status_over : Values → List Slip → StatusValue
status_over v ss = record {
  held = held_trials v ss;
  trials = trial_count v;
  done = done_cells v ss;
  cells = length (cells_of v);
  slips = length ss;
  text = canonical_text v;
}

-- ---- as it is printed

-- how many of how many, in decimal
abbrev pub part_text : ℕ → ℕ → List ℕ
part_text n all = decimal n ++ codes " of " ++ decimal all

-- the lines of a status: three that count, and the plan's text
unfoldable pub status_text : StatusValue → List ℕ
status_text s =
    codes "trials " ++ part_text s.held s.trials ++ 10 ∷ []
    ++ codes "cells " ++ part_text s.done s.cells ++ 10 ∷ []
    ++ codes "slips " ++ decimal s.slips ++ 10 ∷ []
    ++ s.text ++ 10 ∷ []

-- the lines for these slips of a plan: how many of its trials they hold, how many of its cells are done, each trial of
-- which is held, how many slips there are, and the plan's canonical text
unfoldable pub lines_over : Values → List Slip → List ℕ
lines_over v ss =
    codes "trials " ++ part_text (held_trials v ss) (trial_count v) ++ 10 ∷ []
    ++ codes "cells " ++ part_text (done_cells v ss) (length (cells_of v)) ++ 10 ∷ []
    ++ codes "slips " ++ decimal (length ss) ++ 10 ∷ [] ++ canonical_text v ++ 10 ∷ []
