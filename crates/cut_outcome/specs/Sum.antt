-- Sums over trials, and the pieces of a study.
use Rattle.std.specs.Prelude.{ℕ, ◌+◌, ◌-◌, ◌*◌, ◌/◌, ◌≤◌, ◌==◌, ◌&&◌, Bool, List, nat_lt, nat_le}
use Rattle.std.specs.List.{range_with_len, sum_by}
use Rattle.cut_plan.specs.Values.{Values}
use Rattle.cut_plan.specs.Cells.{trial_count}
use Rattle.cut_outcome.specs.declared.totals.Totals.{Totals}
use Rattle.cut_outcome.specs.declared.piece.Piece.{Piece}
use Rattle.cut_outcome.specs.Outcome.{outcome}

-- the eight numbers, each made in one way
abbrev pub each_number : ((Totals → ℕ) → ℕ) → Totals
each_number g = record {
  receivers = g (λ x. x.receivers);
  conflicts = g (λ x. x.conflicts);
  silent = g (λ x. x.silent);
  extra = g (λ x. x.extra);
  votes = g (λ x. x.votes);
  decided = g (λ x. x.decided);
  right = g (λ x. x.right);
  settled = g (λ x. x.settled);
}

-- two sums, added up number by number
abbrev pub plus : Totals → Totals → Totals
plus a b = each_number (λ n. n a + n b)

-- the numbers that both versions of a plan have: with 0 in the place of `settled`
abbrev pub without_settled : Totals → Totals
without_settled x = record x { settled = 0 }

-- no number is above m, except for `settled`: a receiver that counts once hears up to 2^18 deliveries
pub record IsAtMost (m : ℕ) (x : Totals) : Type 0 where
  pub receivers : x.receivers ≤ m
  pub conflicts : x.conflicts ≤ m
  pub silent : x.silent ≤ m
  pub extra : x.extra ≤ m
  pub votes : x.votes ≤ m
  pub decided : x.decided ≤ m
  pub right : x.right ≤ m
  pub settled : x.settled ≤ m * 262144

-- the outcomes of trials, added up number by number
abbrev pub sum_of : Values → List ℕ → Totals
sum_of v ts = each_number (λ n. sum_by (λ t. n (outcome v t)) ts)

-- the trials of a piece
abbrev pub trials_in : Piece → List ℕ
trials_in p = range_with_len p.first p.count

-- a piece of a plan: not empty, up to the last trial at most, and in one cell
abbrev pub is_piece : Values → Piece → Bool
is_piece v p =
    nat_lt 0 p.count && nat_le (p.first + p.count) (trial_count v)
    && (p.first / v.repeats == (p.first + p.count - 1) / v.repeats)

-- the trials of cell number c
abbrev pub trials_of_cell : Values → ℕ → List ℕ
trials_of_cell v c = range_with_len (c * v.repeats) v.repeats
