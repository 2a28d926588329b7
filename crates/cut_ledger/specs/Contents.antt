-- What a ledger holds: a plan, its base, and a set of trials.
use Rattle.std.specs.Prelude.{ℕ, ◌+◌, ◌/◌, ◌==◌, ◌&&◌, ◌||◌, Bool, false, not, List, map, filter}
use Rattle.std.specs.Prelude.{slice_index_or, nat_lt, nat_le}
use Rattle.std.specs.List.{range_with_len, list_any, list_all, sum_by}
use Rattle.cut_plan.specs.Values.{Values}
use Rattle.cut_plan.specs.Cells.{trial_count}
use Rattle.cut_outcome.specs.declared.piece.Piece.{Piece}
use Rattle.cut_outcome.specs.declared.totals.Totals.{Totals}
use Rattle.cut_outcome.specs.Sum.{each_number, plus, sum_of, trials_in, trials_of_cell}
use Rattle.cut_ledger.specs.declared.slip.Slip.{Slip}

-- the plan; the base, which are the slips that it began with; and of each trial whether it is held
pub record Contents : Type 0 where
  pub plan : Values
  pub base : List Slip
  pub held : List Bool

-- ---- sets of trials

-- every trial of a plan
abbrev pub all_trials : Values → List ℕ
all_trials v = range_with_len 0 (trial_count v)

-- the trials of a plan that pass a test, as a set
abbrev pub held_where : Values → (ℕ → Bool) → List Bool
held_where v test = map test (all_trials v)

-- whether a trial is one of a piece
abbrev pub is_in : Piece → ℕ → Bool
is_in p t = nat_le p.first t && nat_lt t (p.first + p.count)

-- whether it is one of some slip's piece
abbrev pub is_in_base : List Slip → ℕ → Bool
is_in_base ss t = list_any (λ s. is_in s.piece t) ss

-- whether trial t is held
abbrev pub has : Contents → ℕ → Bool
has l t = slice_index_or l.held t false

-- ---- ledgers

-- the ledger that holds the trials of these slips, and no other
abbrev pub over_base : Values → List Slip → Contents
over_base v ss = record { plan = v; base = ss; held = held_where v (is_in_base ss) }

-- a ledger with the trials of a piece added
abbrev pub with_piece : Contents → Piece → Contents
with_piece l p = record l { held = held_where l.plan (λ t. has l t || is_in p t) }

-- the number of a piece's cell
abbrev pub cell_of_piece : Contents → Piece → ℕ
cell_of_piece l p = p.first / l.plan.repeats

-- whether some trial of a piece is held
abbrev pub overlaps : Contents → Piece → Bool
overlaps l p = list_any (has l) (trials_in p)

-- whether every trial of cell number c is held
abbrev pub cell_done : Contents → ℕ → Bool
cell_done l c = list_all (has l) (trials_of_cell l.plan c)

-- whether every trial of the plan is
abbrev pub is_complete : Contents → Bool
is_complete l = list_all (has l) (all_trials l.plan)

-- ---- sums

-- the totals of slips, added up number by number
abbrev pub slip_sum : List Slip → Totals
slip_sum ss = each_number (λ n. sum_by (λ s. n s.totals) ss)

-- the slips of cell number c
abbrev pub slips_of_cell : Values → List Slip → ℕ → List Slip
slips_of_cell v ss c = filter (λ s. s.piece.first / v.repeats == c) ss

-- the trials of cell number c that pass a test, except for those of the slips
abbrev pub further_trials : Values → List Slip → (ℕ → Bool) → ℕ → List ℕ
further_trials v ss test c = filter (λ t. test t && not (is_in_base ss t)) (trials_of_cell v c)

-- the totals of a cell's slips, and the outcome of each of its other trials that pass a test, once
abbrev pub sum_where : Values → List Slip → (ℕ → Bool) → ℕ → Totals
sum_where v ss test c =
    plus (slip_sum (slips_of_cell v ss c)) (sum_of v (further_trials v ss test c))

-- the sums of cell number c: the totals of the base's slips of the cell, and the outcome of each held
-- trial of the cell that is not in the base
abbrev pub cell_sum : Contents → ℕ → Totals
cell_sum l c = sum_where l.plan l.base (has l) c
