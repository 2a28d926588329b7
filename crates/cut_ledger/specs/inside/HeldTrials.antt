-- How a ledger keeps what it holds: a set of numbers, a section for each cell, and the sums of each cell. Only the
-- crate's private clauses cite it.
use Rattle.std.specs.Prelude.{◌≡◌, ℕ, ◌*◌, ◌<◌, Bool, true, false, IsTrue, List, length, slice_index_or, slice_set}
use Rattle.std.specs.Prelude.{count_by}
use Rattle.std.specs.List.{list_any}
use Rattle.cut_plan.specs.declared.limits.TheConstants.{MOST_NODES}
use Rattle.cut_plan.specs.Values.{Values}
use Rattle.cut_plan.specs.Cells.{cells_of, trial_count}
use Rattle.cut_plan.specs.Plan.{IsPlan}
use Rattle.cut_outcome.specs.declared.piece.Piece.{Piece}
use Rattle.cut_outcome.specs.declared.totals.Totals.{Totals}
use Rattle.cut_outcome.specs.Sum.{each_number, is_piece, plus, trials_in, trials_of_cell, IsAtMost}
use Rattle.cut_sets.specs.declared.ranges.span.Span.{Span}
use Rattle.cut_sets.specs.ranges.Held.{Held, has, with_span, KeepsOtherRoom}
use Rattle.cut_ledger.specs.declared.slip.Slip.{Slip}
use Rattle.cut_ledger.specs.Account.{Account}
use Rattle.cut_ledger.specs.Contents.{Contents, is_in_base, sum_where}

-- the numbers of a piece's trials
abbrev pub span_of : Piece → Span
span_of p = record { first = p.first; count = p.count }

abbrev pub sum_at : List Totals → ℕ → Totals
sum_at sums c = slice_index_or sums c (each_number (λ n. 0))

-- the sums of a cell in which the trials are held that pass a test
pub record AreSumsOf (v : Values) (base : List Slip) (test : ℕ → Bool) (c : ℕ) (x : Totals) : Type 0 where
  pub sums : x ≡ sum_where v base test c
  pub few : IsAtMost (MOST_NODES * count_by test (trials_of_cell v c)) x

-- what is held of a plan's trials, over a base: among it is all of the base
pub record AreKept (v : Values) (base : List Slip) (trials : Held) (sums : List Totals) : Type 0 where
  pub plan : IsPlan v
  pub section_len : trials.section_len ≡ v.repeats
  pub all : length trials.held ≡ trial_count v
  pub cells : length trials.room ≡ length (cells_of v)
  pub long : length sums ≡ length (cells_of v)
  pub each : (c : ℕ) → c < length sums → AreSumsOf v base (has trials) c (sum_at sums c)
  pub based : (t : ℕ) → is_in_base base t ≡ true → has trials t ≡ true

-- a piece that can be added with its sums: none of its trials is held, and the sums are few
pub record CanBeAdded (v : Values) (trials : Held) (p : Piece) (x : Totals) : Type 0 where
  pub piece : IsTrue (is_piece v p)
  pub apart : list_any (has trials) (trials_in p) ≡ false
  pub few : IsAtMost (MOST_NODES * p.count) x

-- a piece of cell number c was added, with its sums
pub record IsAdded (old new : Held) (olds news : List Totals) (c : ℕ) (p : Piece) (x : Totals) : Type 0 where
  pub section_len : new.section_len ≡ old.section_len
  pub held : new.held ≡ with_span old (span_of p)
  pub others : KeepsOtherRoom old new c
  pub sums : news ≡ slice_set olds c (plus (sum_at olds c) x)

-- what is held are the trials of these slips, and no other
abbrev pub HoldsExactly : Held → List Slip → Type 0
HoldsExactly trials slips = (t : ℕ) → has trials t ≡ is_in_base slips t

-- with their sums
pub record AreOver (v : Values) (slips : List Slip) (trials : Held) (sums : List Totals) : Type 0 where
  pub kept : AreKept v slips trials sums
  pub exactly : HoldsExactly trials slips

-- what a plan, a base and the numbers that are held are together
abbrev pub contents_in : Values → List Slip → Held → Contents
contents_in v base trials = record { plan = v; base = base; held = trials.held }

abbrev pub account_in : Values → List Slip → Held → Account
account_in v base trials = record { contents = contents_in v base trials; room = trials.room }
