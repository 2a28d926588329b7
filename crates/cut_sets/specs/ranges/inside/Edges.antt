-- The numbers at which a set begins or ends. Only the crate's private clauses cite it.
use Rattle.std.specs.Prelude.{◌≡◌, ℕ, ◌<◌, ◌≤◌, ◌%◌, ◌==◌, ◌&&◌, Bool, not, List, nat_le, nat_lt, count_by}
use Rattle.std.specs.Prelude.{if◌then◌else◌}
use Rattle.cut_sets.specs.declared.ranges.run.Run.{Run}

-- the edges of a set, ascending, and whether two more can be put among them without memory
pub record Row : Type 0 where
  pub edges : List ℕ
  pub room : Bool

-- a number is in the set if an odd number of edges is at most the number
abbrev pub is_within : List ℕ → ℕ → Bool
is_within edges t = count_by (λ e. nat_le e t) edges % 2 == 1

-- from one number on, below another
abbrev pub is_between : ℕ → ℕ → ℕ → Bool
is_between from end t = nat_le from t && nat_lt t end

-- a truth value, flipped or not
abbrev pub flipped : Bool → Bool → Bool
flipped turn b = if turn then not b else b

-- a test gives the same result from a number to the end of the run
pub record IsRun (test : ℕ → Bool) (from : ℕ) (r : Run) : Type 0 where
  pub longer : from < r.end
  pub lasts : (t : ℕ) → from ≤ t → t < r.end → test t ≡ r.held
